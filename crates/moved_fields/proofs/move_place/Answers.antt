use mathlib.Core.Path.{refl}
use native.Mathlib.Omega.{arith}
use Rattle.format.proofs.MoveLaws.{moved-low, moved-high}
use Rattle.moved_fields.proofs.move_place.Goals as goal

pub returns-then-p-from : goal.returns-then-p-from
returns-then-p-from c = rw (moved-low _ c.args.to _ c.if-p-from.true) (refl, omega arith)

pub returns-else-p-from : goal.returns-else-p-from
returns-else-p-from c = rw (moved-high _ c.args.to _ c.if-p-from.false) (refl, omega arith)
