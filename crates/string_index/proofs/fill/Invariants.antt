-- The entries of the strings before the cursor are there.
use mathlib.Core.Path.{◌≡◌}
use lib.ListN.{length}
use Rattle.string_walk.specs.Places.{CursorOf}
use Rattle.string_index.specs.Index.{entry_of}
use Rattle.string_index.specs.Filling.{put_entries}
use Rattle.string_index.proofs.fill.Given as goal

abbrev pub invariant-loop-id : goal.invariant-loop-id
invariant-loop-id l =
    (l.c.id ≡ l._id) × (length l.index ≡ length l.initial.index) × CursorOf l.p l.image l.c
    × (l.index ≡ put_entries l.p.strings (entry_of l.p.layout l.image) l.c.id l.initial.index)
