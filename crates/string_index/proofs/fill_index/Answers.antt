-- By admission with the index: its refusal, or the strings of its places.
use Rattle.std.proofs.lemmas.Result.{err_from_is_err_and}
use Rattle.string_index.proofs.IndexLaws.{count_refused, count_filled}
use Rattle.string_index.proofs.fill_index.Goals as goal

pub returns-in_err-p : goal.returns-in_err-p
returns-in_err-p c =
    let a = c.args in
    let e = c.admit_indexed.ensures in
    let p = err_from_is_err_and c.from_residual.result c.from_residual.ensures.1 in
    (rw (p.1, p.2) (count_refused a.layout a.image.now a.index.now _ e.0 _ c.in_err-p.was), e.1)

pub returns : goal.returns
returns c =
    let a = c.args in
    let e = c.admit_indexed.ensures in
    (count_filled a.layout a.image.now a.index.now _ e.0 _ c.in_ok-p.was, e.1)
