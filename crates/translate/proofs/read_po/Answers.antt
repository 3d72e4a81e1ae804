-- 1 to 6, then 13 for the space that is lent; what is enough is lent further.
use mathlib.Core.Path.{ap, sym, ◌∙◌}
use mathlib.Core.Bool.{not}
use Prim.Native.Nat.{ℕ, ◌<◌}
use native.Mathlib.Omega.{arith}
use lib.ListN.{get_or}
use Rattle.std.proofs.lemmas.Result.{err_from_is_err_and}
use Rattle.sections.specs.Places.{Laid}
use Rattle.sections.proofs.SectionLaws.{Sectioned, sectioned}
use Rattle.admission.proofs.AnswerLaws.{is-laid}
use Rattle.translate.proofs.PoLaws.{image_refused, too_short, is_read_lem}
use Rattle.translate.proofs.read_po.Goals as goal
use Rattle.translate.proofs.read_po.Goals.{In_ok-p}

-- the image is admitted
laid : (c : In_ok-p) → Laid c.in_ok-p.p c.args.image.now
laid c = let b : (i : ℕ) → get_or c.args.image.now i 0 < 256 = λ i. (c.type_inv.image i).fits in
    is-laid _ _ _ c.admit.ensures _ c.in_ok-p.was b

pub returns-in_err-p : goal.returns-in_err-p
returns-in_err-p c =
    let a = c.args in
    let r = image_refused a.mode a.layout a.image.now a.file.now a.text.now a.ends.now a.work.now a.out.now _
    c.admit.ensures _ c.in_err-p.was in
    let (k, is, same) = err_from_is_err_and c.from_residual.result c.from_residual.ensures.1 in
    record { answers = rw (is, same) r.0; leaves_space = r.1 }

pub is_enough-requires : goal.is_enough-requires
is_enough-requires c =
    let z : Sectioned c.in_ok-p.p _ = sectioned _ _ (laid (goal.at.is_enough-requires c).In_ok-p).placed in
    omega arith

pub returns-then-not-is_enough : goal.returns-then-not-is_enough
returns-then-not-is_enough c =
    let a = c.args in
    let r = too_short a.mode a.layout a.image.now a.file.now a.text.now a.ends.now a.work.now a.out.now _
    c.admit.ensures _ c.in_ok-p.was (laid (goal.at.returns-then-not-is_enough c).In_ok-p) _ c.is_enough.ensures
    (ap not c.if-not-is_enough.true) in
    record { answers = r.0; leaves_space = r.1 }

pub apply_in-requires : goal.apply_in-requires
apply_in-requires c =
    (laid (goal.at.apply_in-requires c).In_ok-p, sym c.is_enough.ensures ∙ c.if-not-is_enough.false)

pub returns : goal.returns
returns c =
    let a = c.args in
    let r = is_read_lem a.mode a.layout a.image.now a.file.now a.text.now a.ends.now a.work.now a.out.now _
    c.admit.ensures _ c.in_ok-p.was (laid (goal.at.returns c).In_ok-p) _ c.is_enough.ensures
    (ap not c.if-not-is_enough.false) _ _ _ _ _ (c.apply_in.ensures.answers, c.apply_in.ensures.leaves_space) in
    record { answers = r.0; leaves_space = r.1 }
