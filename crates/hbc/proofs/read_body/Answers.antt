-- Two ways out: the number of the refusal, or the bytes where they were found.
use Rattle.std.proofs.lemmas.Result.{err_from_is_err_and}
use Rattle.reader.proofs.PartLaws.{body_inside}
use Rattle.hbc.proofs.ReadLaws.{no_body, a_body}
use Rattle.hbc.proofs.read_body.Goals as goal

pub returns-in_err-body : goal.returns-in_err-body
returns-in_err-body c =
    let a = c.args in
    let e = err_from_is_err_and c.from_residual.result c.from_residual.ensures.1 in
    rw (e.1, e.2) (no_body a.layout a.image.now a.id _ a.out.now _ c.body.ensures _ c.in_err-body.was)

pub copied-requires : goal.copied-requires
copied-requires c =
    let a = c.args in
    body_inside a.layout a.image.now a.id _ c.body.ensures _ c.in_ok-body.was
    (λ i. (c.type_inv.image i).fits)

pub returns : goal.returns
returns c =
    let a = c.args in
    a_body a.layout a.image.now a.id _ a.out.now _ c.body.ensures _ _ _ c.in_ok-body.was
    c.copied.ensures
