-- Each string before the cursor, which is at this id, has had its turn; the total is the length of their file.
use mathlib.Core.Path.{◌≡◌}
use Prim.Native.Nat.{◌*◌, ◌≤◌}
use lib.ListN.{length}
use Rattle.string_walk.specs.Places.{CursorOf}
use Rattle.po_write.specs.File.{file_to}
use Rattle.po_write.specs.Work.{Filled}
use Rattle.po_write.proofs.fill.Given as goal

abbrev pub invariant-loop-id : goal.invariant-loop-id
invariant-loop-id l =
    (l.c.id ≡ l.id) × CursorOf l.p l.image l.c × Filled l.p.layout l.image l.p.strings l.id l.work
    × (l.total ≡ length (file_to l.p.layout l.image l.id)) × (l.total ≤ l.id * 268435476)
