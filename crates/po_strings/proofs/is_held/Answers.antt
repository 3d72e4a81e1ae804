use mathlib.Core.Path.{sym, ◌∙◌}
use native.Mathlib.Omega.{arith}
use borrow.Author.Tests.{lt-ltb}
use Rattle.string_find.proofs.FindLaws.{length_at}
use Rattle.po_strings.specs.Texts.{units_in, no_point}
use Rattle.po_strings.proofs.UnitLaws.{left_all, left_end}
use Rattle.po_strings.proofs.PointLaws.{held_turn, held_stop, held_some, held_none, judged_end}
use Rattle.po_strings.proofs.is_held.Goals as goal

pub returns-then-t-eq0 : goal.returns-then-t-eq0
returns-then-t-eq0 c =
    let a = c.args in
    held_none _ (sym (left_all a.image.now a.t) ∙ left_end a.image.now a.t 0 (omega arith))

pub loop-point-init : goal.loop-point-init
loop-point-init c =
    let a = c.args in
    let s = a.image.now in
    let n = length_at s a.t.start a.t.wide 0 a.t.count in
    (omega arith, rw (left_all s a.t) (held_some (units_in s a.t) (omega (arith, n, c.if-t-eq0.false))))

pub returns-then-not-can_write : goal.returns-then-not-can_write
returns-then-not-can_write c =
    let p = c.in-Some.ensures in
    held_stop _ _ _ p.0 _ _ (rw (lt-ltb _ no_point p.1) c.can_write.ensures) c.loop-point.invariant.1
    c.if-not-can_write.true

pub loop-point-preserved : goal.loop-point-preserved
loop-point-preserved c =
    let p = c.in-Some.ensures in (
      omega (arith, p.3),
      held_turn _ _ _ p.0 _ _ (rw (lt-ltb _ no_point p.1) c.can_write.ensures) c.loop-point.invariant.1
          c.if-not-can_write.false,
    )

pub returns : goal.returns
returns c =
    let a = c.args in
    let l = c.loop-point in
    judged_end a.image.now a.t l.i _ c.in_default.ensures l.invariant.0 l.invariant.1
