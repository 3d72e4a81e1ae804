-- The strings before the cursor, which is at this id, are looked up.
use mathlib.Core.Path.{◌≡◌}
use Rattle.string_walk.specs.Places.{CursorOf}
use Rattle.po_targets.specs.Marks.{Looked}
use Rattle.po_targets.proofs.mark_strings.Given as goal

abbrev pub invariant-loop-id : goal.invariant-loop-id
invariant-loop-id l =
    (l.c.id ≡ l.id) × CursorOf l.p l.image l.c × Looked l.p l.image l.text l.ends l.pairs l.m l.id l.work
