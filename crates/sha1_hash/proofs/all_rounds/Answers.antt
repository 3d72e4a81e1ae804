-- Each turn of the ring begins where the one before it ended.
use Rattle.sha1_hash.proofs.RingLaws.{variables}
use Rattle.sha1_hash.proofs.all_rounds.Goals as goal

pub returns : goal.returns
returns c = variables _ _ _ _ _ c.sixteen_rounds-s80.ensures
