-- 1 to 6, then 13 for the work space; the rest of the work space is not lent further.
use Prim.Native.Nat.{ℕ, ◌<◌}
use native.Mathlib.Omega.{arith}
use lib.ListN.{get_or}
use Rattle.sections.specs.Places.{Laid}
use Rattle.sections.proofs.SectionLaws.{Sectioned, sectioned}
use Rattle.admission.proofs.AnswerLaws.{is-laid}
use Rattle.std.proofs.lemmas.Result.{err_from_is_err_and}
use Rattle.po_write.proofs.WriteLaws.{lent-words, image_refused, work_short, file_made}
use Rattle.po_write.proofs.write_po.Goals as goal
use Rattle.po_write.proofs.write_po.Goals.{In_ok-p}

-- the image is admitted
laid : (c : In_ok-p) → Laid c.in_ok-p.p c.args.image.now
laid c = let b : (i : ℕ) → get_or c.args.image.now i 0 < 256 = λ i. (c.type_inv.image i).fits in
    is-laid _ _ _ c.admit.ensures _ c.in_ok-p.was b

pub returns-in_err-p : goal.returns-in_err-p
returns-in_err-p c =
    let a = c.args in
    let e = err_from_is_err_and c.from_residual.result c.from_residual.ensures.1 in
    rw (e.1, e.2) (image_refused a.layout a.image.now a.work.now a.out.now _ c.admit.ensures _ c.in_err-p.was)

pub overflow_mul-words : goal.overflow_mul-words
overflow_mul-words c =
    let z : Sectioned c.in_ok-p.p _ = sectioned _ _ (laid (goal.at.overflow_mul-words c).In_ok-p).placed in
    omega arith

pub returns-then-work-words : goal.returns-then-work-words
returns-then-work-words c =
    let a = c.args in
    work_short a.layout a.image.now a.work.now a.out.now _ c.admit.ensures _
    c.in_ok-p.was c.if-work-words.true

pub write_known-requires : goal.write_known-requires
write_known-requires c =
    let a = c.args in
    (laid (goal.at.write_known-requires c).In_ok-p, lent-words _ a.work.now c.if-work-words.false)

pub returns : goal.returns
returns c =
    let a = c.args in
    file_made a.layout a.image.now a.work.now a.out.now _ c.admit.ensures _ c.in_ok-p.was
    c.if-work-words.false _ _ _ c.write_known.ensures
