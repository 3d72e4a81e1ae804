-- No string before the cursor has the units, so that the lowest that has them is the lowest from the cursor on.
use mathlib.Core.Path.{◌≡◌}
use Prim.Native.Nat.{◌-◌}
use Rattle.utf.specs.Utf8.{utf16}
use Rattle.string_walk.specs.Places.{CursorOf}
use Rattle.string_find.specs.Find.{find_from, find_id}
use Rattle.string_find.proofs.find.Given as goal

abbrev pub invariant-loop-id : goal.invariant-loop-id
invariant-loop-id l =
    (l.c.id ≡ l.id) × CursorOf l.p l.image l.c
    × (find_from l.p.layout l.image (utf16 l.old) l.id (l.p.strings - l.id) ≡ find_id l.p.layout l.image (utf16 l.old))
