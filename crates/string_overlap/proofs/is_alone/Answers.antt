use mathlib.Core.Path.{ap}
use mathlib.Core.Bool.{not}
use native.Mathlib.Omega.{arith}
use Rattle.bits.proofs.PassLaws.{pass_none}
use Rattle.string_overlap.proofs.OverlapLaws.{lies_low, alone_next, not_alone, alone}
use Rattle.string_overlap.proofs.is_alone.Goals as goal

pub loop-i-init : goal.loop-i-init
loop-i-init c =
    let e = c.first_string-c.ensures in
    let q = c.requires in
    (omega (arith, e.1), e.0 _ _ q.laid.placed, pass_none _)

pub string_at-step-requires : goal.string_at-step-requires
string_at-step-requires c =
    record {
      laid = c.requires.laid;
      cursor_of = (c.loop-i.invariant.1, omega (arith, c.loop-i.invariant.0));
    }

pub is_apart-requires : goal.is_apart-requires
is_apart-requires c =
    let q = c.requires in
    let x = lies_low _ _ q.laid.placed _ _ q.stands.place in
    let y = lies_low _ _ q.laid.placed _ _ c.string_at-step.ensures.string.place in
    (x, y)

pub returns-then-not-is_apart : goal.returns-then-not-is_apart
returns-then-not-is_apart c =
    let q = c.requires in
    not_alone _ _ _ _ _ _ _
    (record {
      placed = q.laid.placed;
      this = q.stands.place;
      that = rw c.loop-i.invariant.0 at c.string_at-step.ensures.string.place;
      tested = c.is_apart.ensures;
    }) (ap not c.if-not-is_apart.true) c.loop-i-test.true

pub loop-i-preserved : goal.loop-i-preserved
loop-i-preserved c =
    let q = c.requires in
    let e = c.string_at-step.ensures in
    let next
    =
    alone_next _ _ _ _ _ _ _
    (record {
      placed = q.laid.placed;
      this = q.stands.place;
      that = rw c.loop-i.invariant.0 at e.string.place;
      tested = c.is_apart.ensures;
    })
    (ap not c.if-not-is_apart.false) c.loop-i.invariant.2 in
    (omega (arith, e.id, c.loop-i.invariant.0), e.next, next)

pub returns : goal.returns
returns c =
    let q = c.requires in
    alone _ _ q.laid.placed _ _ (omega arith) c.loop-i.invariant.2
