-- The total is exact in 64 bits; below 0 and past the width it is none.
use native.Mathlib.Omega.{arith}
use lib.IntN.{pos, ◌+ℤ◌}
use mir.Facts.{to_z-of_z}
use Rattle.bits.proofs.MaskLaws.{bit}
use Rattle.records.proofs.SumLaws.{wider, total_fits, unsigned_fits, total_is, total_held}
use Rattle.records.proofs.SumLaws.{below_zero, past_width, within_width, not_negative}
use Rattle.records.proofs.add_delta.Goals as goal

pub overflow_cast-total-2 : goal.overflow_cast-total-2
overflow_cast-total-2 c = rw (to_z-of_z c.ranges.delta) (wider _ c.ranges.delta)

pub overflow_add-total : goal.overflow_add-total
overflow_add-total c = rw (total_is _ _ c.requires.0 c.ranges.delta) (total_fits _ _ c.requires.0 c.ranges.delta)

pub returns-then-total-lt0 : goal.returns-then-total-lt0
returns-then-total-lt0 c =
    let a = c.args in
    below_zero a.width (pos a.n +ℤ a.delta) (rw (total_held _ _ c.requires.0 c.ranges.delta) at c.if-total-lt0.true)

pub overflow_cast-sum : goal.overflow_cast-sum
overflow_cast-sum c =
    let a = c.args in
    let held = total_held _ _ c.requires.0 c.ranges.delta in
    rw held (
      not_negative (pos a.n +ℤ a.delta) (rw held at c.if-total-lt0.false),
      record { fits = unsigned_fits (pos a.n +ℤ a.delta) (total_fits _ _ c.requires.0 c.ranges.delta) },
    )

pub returns-then-width-sum : goal.returns-then-width-sum
returns-then-width-sum c =
    let a = c.args in
    let held = total_held _ _ c.requires.0 c.ranges.delta in
    past_width a.width (pos a.n +ℤ a.delta) (rw (held, bit a.width (omega (arith, c.requires.1))) at c.if-width-sum.true)

pub returns : goal.returns
returns c =
    let a = c.args in
    let held = total_held _ _ c.requires.0 c.ranges.delta in
    rw held
    (within_width a.width (pos a.n +ℤ a.delta) (rw held at c.if-total-lt0.false)
    (rw (held, bit a.width (omega (arith, c.requires.1))) at c.if-width-sum.false))
