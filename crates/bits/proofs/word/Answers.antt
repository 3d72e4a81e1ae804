use Rattle.std.proofs.Common.{arith}
use Rattle.bits.proofs.ByteLaws.{word_sum}
use Rattle.bits.proofs.word.Goals as goal

pub returns : goal.returns
returns c = (omega (arith, word_sum c.args.s.now c.args.at), omega arith)
