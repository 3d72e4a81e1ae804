-- By the number of units: none, one or two, each taken into the hash.
use Rattle.format.specs.Hash.{hash_from}
use Rattle.utf.proofs.hash_completed.Goals as goal

pub returns-in-None : goal.returns-in-None
unfolding hash_from
returns-in-None c = rw c.in-None.is

pub returns-in-One : goal.returns-in-One
unfolding hash_from
returns-in-One c = rw c.in-One.is c.hash_step.ensures

pub returns-in-Two : goal.returns-in-Two
unfolding hash_from
returns-in-Two c = rw (c.in-Two.is, ← c.hash_step-in-Two.ensures) c.hash_step-in-Two-2.ensures
