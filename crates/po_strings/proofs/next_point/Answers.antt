-- By the unit: no surrogate, a high one, a low one.
use mathlib.Core.Logic.{inr}
use Prim.Native.Nat.{◌+◌, ◌<◌}
use native.Mathlib.Omega.{arith}
use Rattle.po_strings.specs.Texts.{units_left}
use Rattle.po_strings.proofs.UnitLaws.{left_next}
use Rattle.po_strings.proofs.PointLaws.{below_point, above_point, low_alone, none_valid}
use Rattle.po_strings.proofs.next_point.Goals as goal
use Rattle.po_strings.proofs.next_point.Goals.{then-unit-lt55296-via-then-unit-lt55296}
use Rattle.po_strings.proofs.next_point.Goals.{then-unit-lt55296-via-else-unit-lt55296+then-unit-ge57344}

pub returns-then-unit-lt55296 : goal.returns-then-unit-lt55296
returns-then-unit-lt55296 c =
    let a = c.args in
    let k : a.i < a.t.count = omega arith in (
      rw (left_next a.image.now a.t a.i k, ← c.unit_of-unit.ensures.0)
          (elim c.then-unit-lt55296.branch [
            | then-unit-lt55296-via-then-unit-lt55296 w ↦ below_point _ _ w.if-unit-lt55296.true
            | then-unit-lt55296-via-else-unit-lt55296+then-unit-ge57344 w ↦
                above_point _ _ w.if-unit-ge57344.true c.unit_of-unit.ensures.1
          ]),
      omega (arith, c.unit_of-unit.ensures.1),
      omega arith,
      omega arith,
    )

pub returns : goal.returns
returns c =
    let a = c.args in
    let s = a.image.now in
    let k : a.i < a.t.count = omega arith in
    inr (none_valid (units_left s a.t a.i) (units_left s a.t (a.i + 1))
    (rw (left_next s a.t a.i k, ← c.unit_of-unit.ensures.0)
    (low_alone _ _ c.if-unit-lt56320.false c.if-unit-ge57344.false)))
