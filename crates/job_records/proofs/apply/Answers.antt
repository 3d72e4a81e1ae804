-- 15 where the record is cut short, then by its head: each kind of patch promises its own outcome.
use Rattle.std.specs.Prelude.{Ok}
use Rattle.std.proofs.lemmas.Result.{err_from_is_err_and}
use Rattle.std.proofs.Common.{arith, ap, ◌∙◌}
use Rattle.job_records.proofs.RecordLaws.{cut_record, string_patched, body_patched, head_refused}
use Rattle.job_records.proofs.apply.Goals as goal

pub returns-then-bytes-stated_patch : goal.returns-then-bytes-stated_patch
returns-then-bytes-stated_patch c =
    let a = c.args in
    cut_record a.layout a.image.now a.head.now a.bytes.now a.out.now _ c.stated_patch.ensures.0
    c.if-bytes-stated_patch.true

pub returns-in-String : goal.returns-in-String
returns-in-String c =
    let a = c.args in
    string_patched a.layout a.image.now a.head.now a.bytes.now a.out.now _ _
    (record {
      stated = c.stated_patch.ensures.0;
      whole = omega (arith, c.if-bytes-stated_patch.false);
      read = c.patch_head.ensures;
    }) _ _ _ _ (c.in_ok-id.was ∙ ap Ok c.in-String.is) c.patch_string_by_id.ensures

pub returns-in-Body : goal.returns-in-Body
returns-in-Body c =
    let a = c.args in
    body_patched a.layout a.image.now a.head.now a.bytes.now a.out.now _ _
    (record {
      stated = c.stated_patch.ensures.0;
      whole = omega (arith, c.if-bytes-stated_patch.false);
      read = c.patch_head.ensures;
    }) _ _ _ _ (c.in_ok-id.was ∙ ap Ok c.in-Body.is) c.patch_function_bytes.ensures

pub returns-in_err-id : goal.returns-in_err-id
returns-in_err-id c =
    let a = c.args in
    let e = err_from_is_err_and c.from_residual.result c.from_residual.ensures.1 in
    rw (e.1, e.2)
    (head_refused a.layout a.image.now a.head.now a.bytes.now a.out.now _ _
    (record {
      stated = c.stated_patch.ensures.0;
      whole = omega (arith, c.if-bytes-stated_patch.false);
      read = c.patch_head.ensures;
    }) _ c.in_err-id.was)
