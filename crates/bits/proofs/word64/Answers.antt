use Rattle.std.proofs.Common.{arith}
use Rattle.bits.proofs.ByteLaws.{number_at-split}
use Rattle.bits.proofs.word64.Goals as goal

pub returns : goal.returns
returns c = omega (arith, number_at-split c.args.s.now c.args.at 4 4)
