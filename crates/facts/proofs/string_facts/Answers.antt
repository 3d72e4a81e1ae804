-- Two ways out: the number of the refusal, or the facts of the string that was found.
use Rattle.std.proofs.lemmas.Result.{err_from_is_err_and}
use mathlib.Core.Path.{sym, ◌∙◌}
use Rattle.reader.proofs.PartLaws.{string-small}
use Rattle.facts.proofs.FactLaws.{no_facts, the_facts}
use Rattle.facts.proofs.string_facts.Goals as goal

pub returns-in_err-found : goal.returns-in_err-found
returns-in_err-found c =
    let a = c.args in
    let e = err_from_is_err_and c.from_residual.result c.from_residual.ensures.1 in
    rw (e.1, e.2) (no_facts a.layout a.image.now a.id _ a.out.now _ c.string.ensures _ c.in_err-found.was)

pub facts_of_parts-requires : goal.facts_of_parts-requires
facts_of_parts-requires c =
    let a = c.args in
    string-small a.layout a.image.now a.id _ c.string.ensures _ c.in_ok-found.was
    (λ i. (c.type_inv.image i).fits)

pub returns : goal.returns
returns c =
    let a = c.args in
    the_facts a.layout a.image.now a.id _ a.out.now _ (sym c.string.ensures ∙ c.in_ok-found.was) _
    (rw (← c.is_identifier-identifier.ensures) c.facts_of_parts.ensures) _ _ c.told.ensures
