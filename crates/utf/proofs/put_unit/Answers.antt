use Rattle.bits.specs.Bytes.{bytes_of}
use Rattle.bits.proofs.WriteLaws.{next1}
use Rattle.utf.proofs.put_unit.Goals as goal

pub returns : goal.returns
unfolding bytes_of
returns c = simp next1
