use mathlib.Core.Path.{◌≡◌}
use native.Mathlib.Omega.{arith}
use native.Mathlib.Numerals.{add-one}
use Rattle.po_targets.proofs.mark_strings.Goals as goal

pub loop-id-init : goal.loop-id-init
loop-id-init c =
    let e = c.first_string-c.ensures in
    let q = c.requires in
    (e.1, e.0 _ _ q.laid.placed, q.looked)

pub string_at-step-requires : goal.string_at-step-requires
string_at-step-requires c =
    record {
      laid = c.requires.laid;
      cursor_of = (c.loop-id.invariant.1, omega (arith, c.loop-id.invariant.0, c.loop-id-test.true));
    }

pub mark_string-requires : goal.mark_string-requires
mark_string-requires c =
    let q = c.requires.laid in
    record {
      placed = (q.placed, rw c.loop-id.invariant.0 at c.string_at-step.ensures.string, c.loop-id-test.true);
      looked = c.loop-id.invariant.2;
    }

pub loop-id-preserved : goal.loop-id-preserved
loop-id-preserved c =
    let e = c.string_at-step.ensures in (
      omega (arith, e.id, c.loop-id.invariant.0),
      e.next,
      rw add-one c.mark_string.ensures,
    )

pub returns : goal.returns
returns c =
    let l = c.loop-id in
    let a = c.args in
    let e : l.id ≡ a.p.strings = omega (arith, c.loop-id-test.false) in
    rw e at l.invariant.2
