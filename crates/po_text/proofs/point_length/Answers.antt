-- By the number of bytes of the code point.
use mathlib.Core.Path.{refl}
use native.Mathlib.Omega.{arith}
use Rattle.po_text.proofs.EscapeLaws.{written_one, written_two, written_three, written_four}
use Rattle.po_text.proofs.point_length.Goals as goal

pub returns-in-0-to-127 : goal.returns-in-0-to-127
returns-in-0-to-127 c = rw (written_one c.args.c (omega arith)) (c.escape_length.ensures.0, omega arith)

pub returns-in-128-to-2047 : goal.returns-in-128-to-2047
returns-in-128-to-2047 c = rw (written_two c.args.c (omega arith) (omega arith)) (refl, omega arith)

pub returns-in-2048-to-65535 : goal.returns-in-2048-to-65535
returns-in-2048-to-65535 c = rw (written_three c.args.c (omega arith) (omega arith)) (refl, omega arith)

pub returns-in_default : goal.returns-in_default
returns-in_default c = rw (written_four c.args.c (omega arith)) (refl, omega arith)
