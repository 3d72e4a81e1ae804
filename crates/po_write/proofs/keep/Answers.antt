-- Link and head, then the two words of the text.
use native.Mathlib.Omega.{arith}
use lib.ListN.{length-set}
use Rattle.po_write.proofs.keep.Goals as goal

pub bounds-work-n-2 : goal.bounds-work-n-2
bounds-work-n-2 c = rw (length-set) (omega (arith, c.enter.auto.work))

pub returns : goal.returns
returns c = rw (c.if_set.ensures.0, c.enter.ensures)
