-- A dash where there is no unit, and a space.
use native.Mathlib.Omega.{arith}
use Rattle.listing_lines.proofs.UnitLaws.{gap-none, gap-some}
use Rattle.listing_lines.proofs.put_gap.Goals as goal

pub returns-then-count-eq0 : goal.returns-then-count-eq0
returns-then-count-eq0 c = rw (gap-none c.args.count c.if-count-eq0.true) (c.put_text.ensures, omega arith)

pub returns : goal.returns
returns c = rw (gap-some c.args.count c.if-count-eq0.false) (c.put_text-2.ensures, omega arith)
