use native.Mathlib.Omega.{arith}
use Rattle.hbc.proofs.NumberLaws.{is_plain, is_even}
use Rattle.hbc.proofs.mode_of.Goals as goal

pub returns-then-b-eq0 : goal.returns-then-b-eq0
returns-then-b-eq0 c = is_plain c.args.b (omega (arith, c.if-b-eq0.true))

pub returns : goal.returns
returns c = is_even c.args.b (λ e. omega (arith, c.if-b-eq0.false))
