use Rattle.std.proofs.Common.{arith}
use Rattle.bits.proofs.MaskLaws.{or_add}
use Rattle.bits.proofs.join.Goals as goal

pub returns : goal.returns
returns c = or_add 32 c.args.width c.args.high c.args.low (omega arith) c.requires.2 (omega arith)
