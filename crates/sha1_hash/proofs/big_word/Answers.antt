use Rattle.sha1_hash.proofs.BigEndianLaws.{big_sum}
use Rattle.sha1_hash.proofs.big_word.Goals as goal

pub returns : goal.returns
returns c = big_sum c.args.s.now c.args.at
