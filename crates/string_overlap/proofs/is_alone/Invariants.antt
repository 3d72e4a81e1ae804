-- All strings before the cursor are the string itself or apart from it.
use mathlib.Core.Path.{◌≡◌}
use mathlib.Core.Bool.{true}
use Rattle.bits.specs.Choice.{all_below}
use Rattle.string_walk.specs.Places.{CursorOf}
use Rattle.string_overlap.specs.Overlap.{is_apart}
use Rattle.string_overlap.proofs.is_alone.Given as goal

abbrev pub invariant-loop-i : goal.invariant-loop-i
invariant-loop-i l =
    (l.c.id ≡ l.i) × CursorOf l.p l.image l.c × (all_below l.i (is_apart l.p.layout l.image l.id) ≡ true)
