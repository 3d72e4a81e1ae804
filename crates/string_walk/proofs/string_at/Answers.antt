-- The entries of the string, its rank by the run that covers the id, and the counts carried one string further.
use mathlib.Core.Path.{refl, ◌∙◌}
use native.Mathlib.Omega.{arith}
use Rattle.sections.proofs.SectionLaws.{sectioned}
use Rattle.string_walk.specs.Places.{StepOf, counts_of}
use Rattle.string_walk.proofs.RunLaws.{Covers, rank_most, rank_is}
use Rattle.string_walk.proofs.string_at.Goals as goal
use Rattle.string_walk.proofs.string_at.Goals.{After-run_of-run, After-visit-step}

-- the string's entries were visited
step : (c : After-visit-step) → let a = c.args in
    StepOf a.p a.image.now (counts_of a.at) c.visit-step.result
step c = rw c.counts_of.ensures at c.visit-step.ensures

-- and the run was found that covers its id
covers : (c : After-run_of-run) → let a = c.args in
    Covers a.p a.image.now c.run_of-run.result a.at.id
covers c = let r = c.run_of-run.ensures in
    let h = c.requires in
    record { placed = h.laid.placed; run = r.0; reached = r.1; ends = r.2 }

pub visit-step-requires : goal.visit-step-requires
visit-step-requires c =
    let h = c.requires in
    record {
      laid = h.laid;
      walked = rw c.counts_of.ensures (h.cursor_of.0.walked, h.cursor_of.1);
    }

pub overflow_add-string : goal.overflow_add-string
overflow_add-string c =
    let h = c.requires in
    let z = sectioned _ _ h.laid.placed in
    record { fits = omega (arith, (step (goal.at.overflow_add-string c).After-visit-step).place.before) }

pub rank_in-requires : goal.rank_in-requires
rank_in-requires c =
    let next = (step (goal.at.rank_in-requires c).After-visit-step).next in
    record {
      id_le_end = omega (arith, c.run_of-run.ensures.2, next);
      id_bound = λ t. omega (arith, rank_most _ _ _ _ (covers (goal.at.rank_in-requires c).After-run_of-run) t, next);
    }

pub returns : goal.returns
returns c =
    let e = step (goal.at.returns c).After-visit-step in
    let r = c.run_of-run.ensures in
    record {
      string = record {
        place = e.place;
        start = refl;
        rank = c.rank_in.ensures
            ∙ rank_is _ _ _ _ (covers (goal.at.returns c).After-run_of-run);
      };
      next = record { walked = e.walked; run = r.0; reached = omega (arith, e.next) };
      id = e.next;
    }
