use mathlib.Core.Path.{ap, ◌∙◌}
use mathlib.Core.Bool.{not}
use Rattle.string_in_place.proofs.InPlaceLaws.{not_sized, sized_then}
use Rattle.string_in_place.proofs.fits_in_place.Goals as goal

pub returns-then-passes : goal.returns-then-passes
returns-then-passes c = sized_then _ _ _ _ _ c.passes.ensures (ap not c.if-passes.true) _ c.passes-then-passes.ensures

pub returns-else-passes : goal.returns-else-passes
returns-else-passes c = c.if-passes.false ∙ not_sized _ _ _ _ _ c.passes.ensures (ap not c.if-passes.false)
