-- Three ways out: the image is refused, the index is too short, or it is filled.
use Rattle.std.proofs.lemmas.Result.{err_from_is_err_and}
use Rattle.admission.proofs.AnswerLaws.{is-laid}
use Rattle.string_index.proofs.IndexLaws.{fill_refused, fill_short, fill_done, long_enough}
use Rattle.string_index.proofs.admit_indexed.Goals as goal

pub returns-in_err-p : goal.returns-in_err-p
returns-in_err-p c =
    let p = err_from_is_err_and c.from_residual.result c.from_residual.ensures.1 in
    rw (p.1, p.2) (fill_refused _ _ _ c.admit.ensures _ _ c.in_err-p.was)

pub returns-then-is_short : goal.returns-then-is_short
returns-then-is_short c =
    fill_short _ _ _ c.admit.ensures _ _ c.in_ok-p.was _ c.is_short.ensures
    c.if-is_short.true

pub fill-requires : goal.fill-requires
fill-requires c = (
  is-laid _ _ _ c.admit.ensures _ c.in_ok-p.was
      (λ i. (c.type_inv.image i).fits),
  long_enough _ _ _ c.is_short.ensures c.if-is_short.false,
)

pub returns : goal.returns
returns c =
    fill_done _ _ _ c.admit.ensures _ _ c.in_ok-p.was _ c.is_short.ensures
    c.if-is_short.false _ c.fill.ensures
