use native.Mathlib.Omega.{arith}
use Rattle.input_records.proofs.HeadLaws.{half_sum}
use Rattle.input_records.proofs.half_word.Goals as goal

pub returns : goal.returns
returns c = (omega (arith, half_sum c.args.s.now c.args.at), omega arith)
