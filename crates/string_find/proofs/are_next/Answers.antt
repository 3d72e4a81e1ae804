-- By the number of units that the last byte completed: none, one or two.
use Prim.Native.Nat.{◌+◌}
use borrow.Author.Tests.{ne_eqb}
use native.Mathlib.Omega.{arith}
use Rattle.string_find.proofs.FindLaws.{none_next, one_next, two_differ, two_next, room_one, room_first, room_second, room-low}
use Rattle.string_find.proofs.are_next.Goals as goal

pub unit_at-requires : goal.unit_at-requires
unit_at-requires c =
    let a = c.args in
    room_one a.wide a.start a.j _ (rw c.in-One.is at c.requires)

pub unit_at-requires-in-Two : goal.unit_at-requires-in-Two
unit_at-requires-in-Two c =
    let a = c.args in
    room_first a.wide a.start a.j _ (rw c.in-Two.is at c.requires)

pub overflow_add-j : goal.overflow_add-j
overflow_add-j c =
    let a = c.args in
    omega (arith, room-low a.wide a.start (a.j + 2) _ (rw c.in-Two.is at c.requires))

pub unit_at-requires-then-unit_at-u : goal.unit_at-requires-then-unit_at-u
unit_at-requires-then-unit_at-u c =
    let a = c.args in
    room_second a.wide a.start a.j _ (rw c.in-Two.is at c.requires)

pub returns-in-None : goal.returns-in-None
returns-in-None c =
    let a = c.args in
    rw c.in-None.is (none_next a.image.now a.start a.j a.wide)

pub returns-in-One : goal.returns-in-One
returns-in-One c =
    let a = c.args in
    rw c.in-One.is (one_next a.image.now a.start a.j a.wide _ _ c.unit_at.ensures.0)

pub returns-then-unit_at-u : goal.returns-then-unit_at-u
returns-then-unit_at-u c =
    let a = c.args in
    rw c.in-Two.is
    (two_next a.image.now a.start a.j a.wide _ _ c.unit_at-in-Two.ensures.0 _ _ c.if-unit_at-u.true
    c.unit_at-then-unit_at-u.ensures.0)

pub returns-else-unit_at-u : goal.returns-else-unit_at-u
returns-else-unit_at-u c =
    let a = c.args in
    rw (ne_eqb c.unit_at-in-Two.result c.in-Two.u c.if-unit_at-u.false, c.in-Two.is)
    (two_differ a.image.now a.start a.j a.wide _ _ c.unit_at-in-Two.ensures.0 _ c.if-unit_at-u.false)
