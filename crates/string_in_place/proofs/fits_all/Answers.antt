use mathlib.Core.Path.{ap, ◌∙◌}
use mathlib.Core.Bool.{not}
use Rattle.string_in_place.proofs.InPlaceLaws.{not_all_sized, all_sized}
use Rattle.string_in_place.proofs.fits_all.Goals as goal

pub returns-then-all_pass : goal.returns-then-all_pass
returns-then-all_pass c = c.are_alone.ensures ∙ all_sized _ _ _ _ c.all_pass.ensures (ap not c.if-all_pass.true)

pub returns-else-all_pass : goal.returns-else-all_pass
returns-else-all_pass c = c.if-all_pass.false ∙ not_all_sized _ _ _ _ c.all_pass.ensures (ap not c.if-all_pass.false)
