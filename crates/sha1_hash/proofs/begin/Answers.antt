use mathlib.Core.Path.{refl}
use Rattle.sha1_hash.proofs.RingLaws.{begun}
use Rattle.sha1_hash.proofs.begin.Goals as goal

pub returns : goal.returns
returns c = begun _ _ _ c.requires refl
