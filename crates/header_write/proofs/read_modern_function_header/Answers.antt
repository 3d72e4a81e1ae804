use native.Mathlib.Omega.{arith}
use Rattle.header_write.proofs.SlotLaws.{read_short, read_done}
use Rattle.header_write.proofs.read_modern_function_header.Goals as goal

pub returns-then-slot-width : goal.returns-then-slot-width
returns-then-slot-width c = read_short _ _ _ _ (omega arith)

pub returns : goal.returns
returns c = rw c.modern_fields.ensures (read_done _ _ _ _ _ (omega arith) c.load12.ensures)
