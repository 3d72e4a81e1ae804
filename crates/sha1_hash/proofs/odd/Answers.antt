use Rattle.sha1_hash.specs.Functions.{parity}
use Rattle.sha1_hash.proofs.odd.Goals as goal

pub returns : goal.returns
unfolding parity
returns c = rw (c.xor-2.ensures, c.xor.ensures)
