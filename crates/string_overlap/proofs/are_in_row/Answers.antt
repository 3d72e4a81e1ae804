use native.Mathlib.Omega.{arith}
use Rattle.bits.proofs.PassLaws.{pass_none}
use Rattle.string_overlap.proofs.OverlapLaws.{lies_low, not_in_row, row_next, row_end, row_all}
use Rattle.string_overlap.proofs.are_in_row.Goals as goal

pub loop-id-init : goal.loop-id-init
loop-id-init c =
    let e = c.first_string-c.ensures in
    let q = c.requires in
    (omega (arith, e.1), e.0 _ _ q.placed, rw e.1, rw e.1 (pass_none _))

pub string_at-step-requires : goal.string_at-step-requires
string_at-step-requires c =
    record {
      laid = c.requires;
      cursor_of = (c.loop-id.invariant.1, omega (arith, c.loop-id.invariant.0));
    }

pub returns-then-place-end : goal.returns-then-place-end
returns-then-place-end c =
    let q = c.requires in
    not_in_row _ _ q.placed _ _ _ c.string_at-step.ensures.string.place c.loop-id.invariant.2 c.if-place-end.true
    (omega (arith, c.loop-id.invariant.0))

pub size_of-requires : goal.size_of-requires
size_of-requires c =
    let q = c.requires in
    (lies_low _ _ q.placed _ _ c.string_at-step.ensures.string.place).1

pub overflow_add-end : goal.overflow_add-end
overflow_add-end c =
    let q = c.requires in
    let low = lies_low _ _ q.placed _ _ c.string_at-step.ensures.string.place in
    omega (arith, c.size_of.ensures.2, low.0, low.1)

pub loop-id-preserved : goal.loop-id-preserved
loop-id-preserved c =
    let q = c.requires in
    let e = c.string_at-step.ensures in
    let v = c.loop-id.invariant in
    let end = row_end _ _ q.placed _ _ _ e.string.place v.2 _ c.size_of.ensures.0 in
    let row = row_next _ _ q.placed _ _ _ e.string.place v.2 c.if-place-end.false v.3 in
    (omega (arith, e.id, v.0), e.next, rw e.id end, rw e.id row)

pub returns : goal.returns
returns c =
    let q = c.requires in
    row_all _ _ q.placed _ (omega (arith, c.loop-id.invariant.0)) c.loop-id.invariant.3
