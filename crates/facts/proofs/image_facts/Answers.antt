-- A refusal leaves the numbers; an admitted image has its facts told.
use Rattle.std.proofs.lemmas.Result.{err_from_is_err_and}
use mathlib.Core.Path.{sym, ◌∙◌}
use Rattle.admission.proofs.AnswerLaws.{is-laid}
use Rattle.facts.proofs.FactLaws.{no_image, an_image}
use Rattle.facts.proofs.image_facts.Goals as goal

pub returns-in_err-p : goal.returns-in_err-p
returns-in_err-p c =
    let a = c.args in
    let e = err_from_is_err_and c.from_residual.result c.from_residual.ensures.1 in
    rw (e.1, e.2) (no_image a.layout a.image.now _ a.out.now _ c.admit.ensures _ c.in_err-p.was)

pub facts_of-requires : goal.facts_of-requires
facts_of-requires c =
    let a = c.args in
    (is-laid a.layout a.image.now _ c.admit.ensures _ c.in_ok-p.was
    (λ i. (c.type_inv.image i).fits)
    ).placed

pub returns : goal.returns
returns c =
    let a = c.args in
    an_image a.layout a.image.now _ a.out.now _ (sym c.admit.ensures ∙ c.in_ok-p.was) _
    c.facts_of.ensures _ _ c.told.ensures
