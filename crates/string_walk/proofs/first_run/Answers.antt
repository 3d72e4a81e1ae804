use mathlib.Core.Path.{refl}
use Rattle.string_walk.specs.Runs.{run_at}
use Rattle.string_walk.proofs.first_run.Goals as goal

pub returns : goal.returns
unfolding run_at
returns c = λ w. refl
