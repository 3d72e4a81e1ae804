-- Each string before the cursor starts behind the one before it.
use mathlib.Core.Path.{◌≡◌}
use mathlib.Core.Bool.{true}
use Rattle.bits.specs.Choice.{all_below}
use Rattle.string_walk.specs.Places.{CursorOf}
use Rattle.string_overlap.specs.Overlap.{end_before, starts_behind}
use Rattle.string_overlap.proofs.are_in_row.Given as goal

abbrev pub invariant-loop-id : goal.invariant-loop-id
invariant-loop-id l =
    (l.c.id ≡ l._id) × CursorOf l.p l.image l.c × (l.end ≡ end_before l.p.layout l.image l.c.id)
    × (all_below l.c.id (starts_behind l.p.layout l.image) ≡ true)
