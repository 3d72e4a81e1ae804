use Rattle.text.specs.Text.{hex4}
use Rattle.bits.proofs.WriteLaws.{next1, next2, next3}
use Rattle.text.proofs.put_hex.Goals as goal

pub returns : goal.returns
unfolding hex4
returns c =
    rw (← c.digit.ensures, ← c.digit-2.ensures, ← c.digit-3.ensures, ← c.digit-4.ensures)
    (simp (next1, next2, next3))
