-- One word of each run.
use mathlib.Core.Path.{refl}
use Rattle.string_index.specs.Index.{entry_in}
use Rattle.string_index.proofs.entry_at.Goals as goal

pub returns : goal.returns
unfolding entry_in
returns c = refl
