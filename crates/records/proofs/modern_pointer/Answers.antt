use native.Mathlib.Omega.{arith}
use Rattle.format.specs.Record.{pointer}
use Rattle.records.proofs.modern_pointer.Goals as goal

pub join-requires : goal.join-requires
join-requires c = rw c.width.ensures (omega arith)

pub returns : goal.returns
unfolding pointer
returns c =
    rw (c.join.ensures, c.width.ensures)
    (rw (← c.value-low.ensures.0, ← c.value-high.ensures.0) (omega arith))
