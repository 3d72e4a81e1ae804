use native.Mathlib.Omega.{arith}
use mathlib.Core.Path.{refl}
use lib.ListN.{length-set}
use Rattle.bits.proofs.WriteLaws.{next1}
use Rattle.listing_lines.proofs.put_letter.Goals as goal

pub bounds-out-at-2 : goal.bounds-out-at-2
bounds-out-at-2 c = simp length-set (omega arith)

pub returns : goal.returns
returns c = rw (← c.choose.ensures) (refl, simp next1)
