use native.Mathlib.Omega.{arith}
use Rattle.sections.proofs.SectionLaws.{sectioned}
use Rattle.string_walk.proofs.RecordLaws.{record_small}
use Rattle.string_steps.proofs.SizeLaws.{sum_none, sum_end, old_next}
use Rattle.string_steps.proofs.old_bytes.Goals as goal

pub loop-id-init : goal.loop-id-init
loop-id-init c =
    let e = c.first_string-c.ensures in
    let q = c.requires in
    (omega (arith, e.1), e.0 _ _ q.placed, rw e.1 (sum_none _), omega arith)

pub string_at-step-requires : goal.string_at-step-requires
string_at-step-requires c =
    record {
      laid = c.requires;
      cursor_of = (c.loop-id.invariant.1, omega (arith, c.loop-id.invariant.0));
    }

pub size_of-sum-requires : goal.size_of-sum-requires
size_of-sum-requires c =
    let q = c.requires in
    (record_small _ _ q.placed _ _ c.string_at-step.ensures.string).0

pub overflow_add-sum : goal.overflow_add-sum
overflow_add-sum c =
    let q = c.requires in
    let z = sectioned _ _ q.placed in
    let small = (record_small _ _ q.placed _ _ c.string_at-step.ensures.string).0 in
    omega (arith, c.size_of-sum.ensures.2, c.loop-id.invariant.3, c.loop-id.invariant.0)

pub loop-id-preserved : goal.loop-id-preserved
loop-id-preserved c =
    let q = c.requires in
    let e = c.string_at-step.ensures in
    let n = old_next _ _ q.placed _ _ e _ _ c.size_of-sum.ensures.0 c.loop-id.invariant.2 c.loop-id.invariant.3 in
    (omega (arith, e.id, c.loop-id.invariant.0), e.next, n.0, n.1)

pub returns : goal.returns
returns c =
    let v = c.loop-id.invariant in
    sum_end _ _ _ _ _ (omega (arith, v.0)) v.2 v.3
