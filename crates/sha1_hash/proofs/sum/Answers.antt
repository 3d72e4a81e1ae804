use Rattle.sha1_hash.specs.Sha1.{summed}
use Rattle.sha1_hash.proofs.sum.Goals as goal

pub returns : goal.returns
unfolding summed
returns c = rw (c.add-5.ensures, c.add-4.ensures, c.add-3.ensures, c.add-2.ensures, c.add.ensures)
