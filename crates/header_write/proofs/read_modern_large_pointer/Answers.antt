use native.Mathlib.Omega.{arith}
use Rattle.header_write.proofs.SlotLaws.{read_short, read_done}
use native.Mathlib.Nat.{mod-eq_of_lt}
use Rattle.records.specs.Records.{pointer_read}
use Rattle.header_write.proofs.read_modern_large_pointer.Goals as goal

pub returns-then-slot-width : goal.returns-then-slot-width
returns-then-slot-width c = read_short _ _ _ _ (omega arith)

pub returns : goal.returns
unfolding pointer_read
returns c =
    rw (← mod-eq_of_lt c.modern_pointer.ensures.1, c.modern_pointer.ensures.0)
    (read_done _ _ _ _ _ (omega arith) c.load12.ensures)
