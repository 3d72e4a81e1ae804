-- The pair of an overflowed entry is there; the place lies in storage, and both counts go on.
use mathlib.Core.Path.{refl}
use Rattle.string_walk.proofs.WalkLaws.{EntryAt, pairs_few, pair_there, lies, walked_next}
use Rattle.string_walk.proofs.visit.Goals as goal
use Rattle.string_walk.proofs.visit.Goals.{After-small_entry-entry}

-- the entry that was read is that of the next string
entry : (c : After-small_entry-entry) → let a = c.args in
    EntryAt a.p a.image.now a.before c.small_entry-entry.result
entry c = let h = c.requires in
    record { laid = h.laid; walked = h.walked.0; known = h.walked.1; entry = c.small_entry-entry.ensures.0 }

pub read_place-read-requires : goal.read_place-read-requires
read_place-read-requires c =
    record {
      pairs_bound = pairs_few _ _ _ _ (entry (goal.at.read_place-read-requires c).After-small_entry-entry);
      width_in_bounds = pair_there _ _ _ _ (entry (goal.at.read_place-read-requires c).After-small_entry-entry);
    }

pub returns : goal.returns
returns c =
    let e = entry (goal.at.returns c).After-small_entry-entry in
    let g = c.read_place-read.ensures in
    record { place = lies _ _ _ _ e _ g.place; walked = walked_next _ _ _ _ e _ refl g.over; next = refl }
