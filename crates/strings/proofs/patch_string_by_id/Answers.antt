-- Refusals in 01's order, each by its law; a string that is there is patched.
use Rattle.std.proofs.lemmas.Result.{err_from_is_err_and}
use mathlib.Core.Path.{ap}
use mathlib.Core.Bool.{not}
use mathlib.Core.Path.{sym, ◌∙◌}
use Prim.Native.Nat.{ℕ, ◌<◌}
use lib.ListN.{get_or}
use Rattle.sections.specs.Places.{Laid}
use Rattle.admission.proofs.AnswerLaws.{is-laid}
use Rattle.strings.proofs.PatchLaws.{Admits, id_refused, id-absent, id-value, id_known}
use Rattle.strings.proofs.patch_string_by_id.Goals as goal
use Rattle.strings.proofs.patch_string_by_id.Goals.{In_ok-p}

-- the image is admitted
admits : (c : In_ok-p) → let a = c.args in
    Admits a.layout a.image.now c.admit.result c.in_ok-p.p
admits c = record { is = c.admit.ensures; laid = c.in_ok-p.was }

laid : (c : In_ok-p) → Laid c.in_ok-p.p c.args.image.now
laid c = let b : (i : ℕ) → get_or c.args.image.now i 0 < 256 = λ i. (c.type_inv.image i).fits in
    is-laid _ _ _ c.admit.ensures _ c.in_ok-p.was b

pub returns-in_err-p : goal.returns-in_err-p
returns-in_err-p c =
    let a = c.args in
    let e = err_from_is_err_and c.from_residual.result c.from_residual.ensures.1 in
    rw (e.1, e.2) (id_refused _ _ _ c.admit.ensures a.mode a.id a.value.now a.out.now _ c.in_err-p.was)

pub returns-then-p-id : goal.returns-then-p-id
returns-then-p-id c =
    let a = c.args in
    id-absent a.mode _ _ _ _ a.id a.value.now a.out.now (admits (goal.at.returns-then-p-id c).In_ok-p) c.if-p-id.true

pub returns-then-not-is_utf8 : goal.returns-then-not-is_utf8
returns-then-not-is_utf8 c =
    let a = c.args in
    id-value a.mode _ _ _ _ a.id a.value.now a.out.now _
    (record { admits = admits (goal.at.returns-then-not-is_utf8 c).In_ok-p; known = c.if-p-id.false; tested = c.is_utf8.ensures })
    (ap not c.if-not-is_utf8.true)

pub patch_one-requires : goal.patch_one-requires
patch_one-requires c =
    (laid (goal.at.patch_one-requires c).In_ok-p, c.if-p-id.false, sym c.is_utf8.ensures ∙ c.if-not-is_utf8.false)

pub returns : goal.returns
returns c =
    let a = c.args in
    id_known a.mode _ _ _ _ a.id a.value.now a.out.now _
    (record { admits = admits (goal.at.returns c).In_ok-p; known = c.if-p-id.false; tested = c.is_utf8.ensures })
    (ap not c.if-not-is_utf8.false)
    _ _ c.patch_one.ensures
