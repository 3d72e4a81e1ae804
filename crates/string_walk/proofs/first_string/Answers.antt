use mathlib.Core.Path.{refl}
use Rattle.string_walk.proofs.VisitLaws.{walked_none}
use Rattle.string_walk.proofs.RunLaws.{first_run_of}
use Rattle.string_walk.proofs.first_string.Goals as goal

pub returns : goal.returns
returns c = (
  λ p s h.
      let f = first_run_of p s h _ c.first_run.ensures in
      record { walked = walked_none p.layout s; run = f.0; reached = f.1 0 },
  refl,
)
