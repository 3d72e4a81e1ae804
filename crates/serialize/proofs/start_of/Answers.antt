use Prim.Native.Nat.{◌-◌}
use native.Mathlib.Omega.{arith}
use Rattle.serialize.proofs.BuilderLaws.{start_first, start_later}
use Rattle.serialize.proofs.start_of.Goals as goal

pub returns-then-i-eq0 : goal.returns-then-i-eq0
returns-then-i-eq0 c = (start_first c.args.ends.now c.args.i c.if-i-eq0.true, omega arith)

pub returns-else-i-eq0 : goal.returns-else-i-eq0
returns-else-i-eq0 c =
    let e = c.args.ends.now in
    (start_later e c.args.i c.if-i-eq0.false, omega (arith, c.type_inv.ends (c.args.i - 1)))
