-- Two bytes where the byte is special, else one.
use mathlib.Core.Path.{refl}
use native.Mathlib.Omega.{arith}
use Rattle.po_text.specs.Written.{escape}
use Rattle.po_text.proofs.escape_length.Goals as goal

pub returns-then-is_special : goal.returns-then-is_special
unfolding escape
returns-then-is_special c = rw (← c.is_special.ensures, c.if-is_special.true) (refl, omega arith)

pub returns-else-is_special : goal.returns-else-is_special
unfolding escape
returns-else-is_special c = rw (← c.is_special.ensures, c.if-is_special.false) (refl, omega arith)
