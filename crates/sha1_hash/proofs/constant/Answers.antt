use mathlib.Core.Path.{refl}
use Rattle.sha1_hash.specs.Functions.{k_in}
use Rattle.sha1_hash.proofs.constant.Goals as goal

pub returns : goal.returns
unfolding k_in
returns c = refl
