-- A high surrogate that is the last unit, or that no low one follows, stands alone.
use mathlib.Core.Logic.{inl, inr}
use Prim.Native.Nat.{◌+◌}
use native.Mathlib.Omega.{arith}
use Rattle.po_strings.specs.Texts.{units_left}
use Rattle.po_strings.proofs.UnitLaws.{left_next, left_end}
use Rattle.po_strings.proofs.PointLaws.{high_last, high_alone, pair_point, none_valid}
use Rattle.po_strings.proofs.paired.Goals as goal
use Rattle.po_strings.proofs.paired.Goals.{then-low-lt56320-via-then-low-lt56320}
use Rattle.po_strings.proofs.paired.Goals.{then-low-lt56320-via-else-low-lt56320+then-low-ge57344}

pub returns-then-next-t : goal.returns-then-next-t
returns-then-next-t c =
    let a = c.args in
    let q = c.requires in
    let s = a.image.now in
    inr (none_valid (units_left s a.t a.i) (units_left s a.t (a.i + 1))
    (rw (left_next s a.t a.i q.inside.1, ← q.high_value.0)
    (high_last a.high _ q.high_value.1 q.high_value.2 (left_end s a.t (a.i + 1) (omega arith)))))

pub returns-then-low-lt56320 : goal.returns-then-low-lt56320
returns-then-low-lt56320 c =
    let a = c.args in
    let q = c.requires in
    let s = a.image.now in
    let e = left_next s a.t (a.i + 1) (omega arith) in
    inr (none_valid (units_left s a.t a.i) (units_left s a.t (a.i + 1))
    (rw (left_next s a.t a.i q.inside.1, ← q.high_value.0)
    (high_alone a.high _ q.high_value.1 q.high_value.2 c.unit_of-low.result (units_left s a.t (a.i + 1 + 1))
    (rw c.unit_of-low.ensures.0 e)
    (elim c.then-low-lt56320.branch [
      | then-low-lt56320-via-then-low-lt56320 w ↦ inl w.if-low-lt56320.true
      | then-low-lt56320-via-else-low-lt56320+then-low-ge57344 w ↦ inr w.if-low-ge57344.true
    ]))))

pub returns : goal.returns
returns c =
    let a = c.args in
    let q = c.requires in
    let s = a.image.now in
    let e = left_next s a.t (a.i + 1) (omega arith) in (
      rw (left_next s a.t a.i q.inside.1, ← q.high_value.0)
          (pair_point a.high _ q.high_value.1 q.high_value.2 c.unit_of-low.result (units_left s a.t (a.i + 1 + 1))
          (rw c.unit_of-low.ensures.0 e) c.if-low-lt56320.false
          c.if-low-ge57344.false),
      omega arith,
      omega arith,
      omega arith,
    )
