-- The image's own number first, then 7, then what `judge_body` says of a function that is there.
use mathlib.Core.Path.{sym, ◌∙◌}
use Rattle.std.proofs.lemmas.Result.{err_from_is_err_and}
use Rattle.functions.proofs.JudgeLaws.{FunctionKnown, image_refused, no_function_lem, function-asked, body_asked, body_judged}
use Rattle.functions.proofs.measure.Goals as goal
use Rattle.functions.proofs.measure.Goals.{Else-p-id}

-- the image is admitted, and has the function
known : (c : Else-p-id) → let a = c.args in
    FunctionKnown a.layout a.image.now a.id c.in_ok-p.p
known c = record {
  bytes = λ i. (c.type_inv.image i).fits;
  laid = sym c.admit.ensures ∙ c.in_ok-p.was;
  known = c.if-p-id.false;
}

pub returns-in_err-p : goal.returns-in_err-p
returns-in_err-p c =
    let a = c.args in
    let e = err_from_is_err_and c.from_residual.result c.from_residual.ensures.1 in
    rw (e.1, e.2) (image_refused a.layout a.image.now a.id a.body.now _ c.admit.ensures _ c.in_err-p.was)

pub returns-then-p-id : goal.returns-then-p-id
returns-then-p-id c =
    let a = c.args in
    no_function_lem a.layout a.image.now a.id a.body.now _ c.admit.ensures _ c.in_ok-p.was
    c.if-p-id.true

pub function_at-f-requires : goal.function_at-f-requires
function_at-f-requires c =
    let asked = function-asked _ _ _ c.args.body.now (known (goal.at.function_at-f-requires c).Else-p-id) in
    record { readable = asked.0; i_bound = asked.1 }

pub judge_body-requires : goal.judge_body-requires
judge_body-requires c =
    let asked = body_asked _ _ _ c.args.body.now (known (goal.at.judge_body-requires c).Else-p-id) _ c.function_at-f.ensures in
    record { laid = asked.0; id_bound = asked.1 }

pub returns : goal.returns
returns c = body_judged _ _ _ c.args.body.now (known (goal.at.returns c).Else-p-id) _ c.judge_body.ensures
