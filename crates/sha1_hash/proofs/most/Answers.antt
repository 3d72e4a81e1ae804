use Rattle.sha1_hash.specs.Functions.{maj}
use Rattle.sha1_hash.proofs.most.Goals as goal

pub returns : goal.returns
unfolding maj
returns c = rw (c.xor-2.ensures, c.and-3.ensures, c.xor.ensures, c.and-2.ensures, c.and.ensures)
