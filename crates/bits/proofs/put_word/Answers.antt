use Rattle.bits.specs.Bytes.{bytes_of}
use Rattle.bits.proofs.WriteLaws.{next1, next2, next3}
use Rattle.bits.proofs.put_word.Goals as goal

pub returns : goal.returns
unfolding bytes_of
returns c = simp (next1, next2, next3)
