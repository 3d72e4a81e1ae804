use mathlib.Core.Path.{ap}
use Rattle.bits.specs.Outcome.{passed}
use Rattle.string_steps.proofs.MarkLaws.{sound}
use Rattle.string_steps.proofs.StopLaws.{roomy_stop}
use Rattle.string_steps.proofs.stop_of.Goals as goal

pub returns-then-is_roomy : goal.returns-then-is_roomy
returns-then-is_roomy c =
    ap passed (roomy_stop _ _ _ _ _ (sound _ _ _ _ _ c.requires (λ i. (c.type_inv.text i).fits)) _
    c.is_roomy.ensures c.if-is_roomy.true)
