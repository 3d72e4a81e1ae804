-- Two ways out: the number of the refusal, or the bytes where they were found.
use Rattle.std.proofs.lemmas.Result.{err_from_is_err_and}
use Rattle.reader.proofs.PartLaws.{string-small, string-inside}
use Rattle.hbc.proofs.ReadLaws.{no_string_lem, a_string}
use Rattle.hbc.proofs.read_string.Goals as goal

pub returns-in_err-string : goal.returns-in_err-string
returns-in_err-string c =
    let a = c.args in
    let e = err_from_is_err_and c.from_residual.result c.from_residual.ensures.1 in
    rw (e.1, e.2) (no_string_lem a.layout a.image.now a.id _ a.out.now _ c.string.ensures _ c.in_err-string.was)

pub size_of-requires : goal.size_of-requires
size_of-requires c =
    let a = c.args in
    string-small a.layout a.image.now a.id _ c.string.ensures _ c.in_ok-string.was
    (λ i. (c.type_inv.image i).fits)

pub copied-requires : goal.copied-requires
copied-requires c =
    let a = c.args in
    rw c.size_of.ensures.0
    (string-inside a.layout a.image.now a.id _ c.string.ensures _ c.in_ok-string.was
    (λ i. (c.type_inv.image i).fits))

pub returns : goal.returns
returns c =
    let a = c.args in
    a_string a.layout a.image.now a.id _ a.out.now _ c.string.ensures _ _ _ _ c.in_ok-string.was
    c.size_of.ensures.0 c.copied.ensures
