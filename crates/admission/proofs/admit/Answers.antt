-- The stages in 01's order: the first that refuses is the answer, and each later one has the places of the first.
use Rattle.std.specs.Prelude.{Ok}
use Rattle.std.proofs.lemmas.Result.{err_from_is_err_and}
use mathlib.Core.Path.{◌≡◌, refl, sym, ◌∙◌}
use Rattle.admission.specs.Admission.{laid_out}
use Rattle.admission.proofs.StageLaws.{refused_first, placed, refused_second, judged_last}
use Rattle.admission.proofs.admit.Goals as goal
use Rattle.admission.proofs.admit.Goals.{In_ok-p}

-- the first stage passes
laid : (c : In_ok-p) → let a = c.args in
    laid_out a.layout a.image.now ≡ Ok c.in_ok-p.p
laid c = sym c.lay_out.ensures ∙ c.in_ok-p.was

pub returns-in_err-p : goal.returns-in_err-p
returns-in_err-p c =
    let p = err_from_is_err_and c.from_residual.result c.from_residual.ensures.1 in
    rw (p.1, p.2) (refused_first _ _ _ (sym c.in_err-p.was ∙ c.lay_out.ensures) _ refl)

pub judge_strings-requires : goal.judge_strings-requires
judge_strings-requires c = placed _ _ _ (laid (goal.at.judge_strings-requires c).In_ok-p)

pub returns-in_err-judge_strings : goal.returns-in_err-judge_strings
returns-in_err-judge_strings c =
    let e = c.from_residual-in_err-judge_strings in
    let p = err_from_is_err_and e.result e.ensures.1 in
    rw (p.1, p.2)
    (refused_second _ _ _ (laid (goal.at.returns-in_err-judge_strings c).In_ok-p) _
    (sym c.in_err-judge_strings.was ∙ c.judge_strings.ensures) _ refl)

pub judge_functions-requires : goal.judge_functions-requires
judge_functions-requires c = placed _ _ _ (laid (goal.at.judge_functions-requires c).In_ok-p)

pub returns : goal.returns
returns c =
    judged_last _ _ _ (laid (goal.at.returns c).In_ok-p) _
    (sym c.judge_strings.ensures ∙ c.in_ok-judge_strings.was) _ c.judge_functions.ensures
