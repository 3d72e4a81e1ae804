use Rattle.sha1_hash.specs.Sha1.{hashed}
use Rattle.sha1_hash.proofs.hash_block.Goals as goal

pub returns : goal.returns
unfolding hashed
returns c = rw (c.sum.ensures, c.all_rounds.ensures)
