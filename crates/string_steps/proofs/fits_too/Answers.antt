use mathlib.Core.Path.{ap, ◌∙◌}
use mathlib.Core.Bool.{not}
use Rattle.string_in_place.specs.Patch.{fits_in_place}
use Rattle.string_steps.proofs.StopLaws.{not_before, all_before}
use Rattle.string_steps.proofs.fits_too.Goals as goal

pub returns-then-before : goal.returns-then-before
returns-then-before c =
    let a = c.args in
    c.fits_in_place.ensures ∙ all_before (fits_in_place a.p.layout a.image.now a.id a.value.now) a.before (ap not c.if-before.true)

pub returns-else-before : goal.returns-else-before
returns-else-before c =
    let a = c.args in
    c.if-before.false ∙ not_before (fits_in_place a.p.layout a.image.now a.id a.value.now) a.before (ap not c.if-before.false)
