-- A wide unit is two bytes, a narrow one is one; both lie within what the caller has shown to be there.
use native.Mathlib.Omega.{arith}
use mathlib.Core.Path.{refl}
use Rattle.string_walk.proofs.UnitLaws.{wide_unit, narrow_unit}
use Rattle.string_walk.proofs.unit_at.Goals as goal

pub overflow_mul-at : goal.overflow_mul-at
overflow_mul-at c = record { fits = omega (arith, rw c.if-wide.true at c.requires) }

pub overflow_add-at : goal.overflow_add-at
overflow_add-at c = record { fits = omega (arith, rw c.if-wide.true at c.requires) }

pub bounds-image-at : goal.bounds-image-at
bounds-image-at c = omega (arith, rw c.if-wide.true at c.requires)

pub overflow_add-at-then-wide : goal.overflow_add-at-then-wide
overflow_add-at-then-wide c = record { fits = omega (arith, rw c.if-wide.true at c.requires) }

pub bounds-image-at-then-wide : goal.bounds-image-at-then-wide
bounds-image-at-then-wide c = omega (arith, rw c.if-wide.true at c.requires)

pub returns-then-wide : goal.returns-then-wide
returns-then-wide c = (rw (c.wide-then-wide.ensures.0, c.wide.ensures.0, c.if-wide.true) (wide_unit _ _ _ _ refl), omega arith)

pub overflow_add-start : goal.overflow_add-start
overflow_add-start c = record { fits = omega (arith, rw c.if-wide.false at c.requires) }

pub bounds-image-start : goal.bounds-image-start
bounds-image-start c = omega (arith, rw c.if-wide.false at c.requires)

pub returns : goal.returns
returns c = (rw (c.wide-2.ensures.0, c.if-wide.false) (narrow_unit _ _ _), omega arith)
