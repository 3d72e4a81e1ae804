use native.Mathlib.Omega.{arith}
use Rattle.string_walk.proofs.WalkLaws.{pass_visits}
use Rattle.string_find.proofs.FindLaws.{find_none, found_at, find_next, found_none}
use Rattle.string_find.proofs.find.Goals as goal

pub count_units-count-requires : goal.count_units-count-requires
count_units-count-requires c = tt

pub loop-id-init : goal.loop-id-init
loop-id-init c =
    let e = c.first_string-c.ensures in
    let q = c.requires in
    (omega (arith, e.1), e.0 _ _ q.placed, find_none _ _ _ q.placed)

pub string_at-step-requires : goal.string_at-step-requires
string_at-step-requires c =
    record {
      laid = c.requires;
      cursor_of = (c.loop-id.invariant.1, omega (arith, c.loop-id.invariant.0));
    }

pub has_units-requires : goal.has_units-requires
has_units-requires c =
    record {
      placed = (c.requires.placed, rw c.loop-id.invariant.0 at c.string_at-step.ensures.string);
      count_value = c.count_units-count.ensures;
    }

pub returns-then-has_units : goal.returns-then-has_units
returns-then-has_units c =
    let e = c.string_at-step.ensures in
    found_at _ _ _ _ _
    (record { known = c.loop-id-test.true; tested = c.has_units.ensures; finds = c.loop-id.invariant.2 })
    c.if-has_units.true _ _ (rw c.loop-id.invariant.0 at e.string)
    (rw c.loop-id.invariant.0 at (pass_visits _ _ _ _ e _ c.counts_of.ensures))

pub loop-id-preserved : goal.loop-id-preserved
loop-id-preserved c =
    let p = c.args.p in
    let e = c.string_at-step.ensures in
    let next
    =
    find_next p _ _ _ _ _
    (record { known = c.loop-id-test.true; tested = c.has_units.ensures; finds = c.loop-id.invariant.2 })
    c.if-has_units.false in
    (omega (arith, e.id, c.loop-id.invariant.0), e.next, next)

pub returns : goal.returns
returns c =
    let p = c.args.p in
    found_none p _ _ _ c.loop-id-test.false c.loop-id.invariant.2
