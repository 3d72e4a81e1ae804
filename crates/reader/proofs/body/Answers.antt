-- The image's own number first, then 7, then the function.
use Rattle.std.specs.Prelude.{Ok}
use Rattle.std.proofs.lemmas.Result.{err_from_is_err_and}
use mathlib.Core.Path.{◌≡◌, sym, ◌∙◌}
use Prim.Native.Nat.{ℕ, ◌<◌}
use lib.ListN.{get_or}
use Rattle.admission.specs.Admission.{admission}
use Rattle.admission.proofs.AnswerLaws.{is-laid}
use Rattle.reader.proofs.ReadingLaws.{body_refused, body_absent, body_found}
use Rattle.reader.proofs.body.Goals as goal
use Rattle.reader.proofs.body.Goals.{In_ok-p}

-- the image is admitted
laid : (c : In_ok-p) → let a = c.args in
    admission a.layout a.image.now ≡ Ok c.in_ok-p.p
laid c = sym c.admit.ensures ∙ c.in_ok-p.was

pub returns-in_err-p : goal.returns-in_err-p
returns-in_err-p c =
    let e = err_from_is_err_and c.from_residual.result c.from_residual.ensures.1 in
    rw (e.1, e.2) (body_refused _ _ _ c.admit.ensures _ _ c.in_err-p.was)

pub returns-then-p-id : goal.returns-then-p-id
returns-then-p-id c = body_absent _ _ _ (laid (goal.at.returns-then-p-id c).In_ok-p) _ c.if-p-id.true

pub function_of-requires : goal.function_of-requires
function_of-requires c =
    let e = c.admit.ensures in
    let f = c.in_ok-p.was in
    let b : (i : ℕ) → get_or c.args.image.now i 0 < 256 = λ i. (c.type_inv.image i).fits in
    record { laid = is-laid _ _ _ e _ f b; id_lt_functions = c.if-p-id.false }

pub returns : goal.returns
returns c = body_found _ _ _ (laid (goal.at.returns c).In_ok-p) _ c.if-p-id.false _ c.function_of.ensures.0
