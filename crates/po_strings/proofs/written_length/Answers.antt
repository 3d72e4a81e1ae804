use mathlib.Core.Path.{ap}
use native.Mathlib.Omega.{arith}
use lib.ListN.{length}
use Rattle.po_strings.proofs.UnitLaws.{left_all}
use Rattle.po_strings.proofs.PointLaws.{left_valid, length_parts, valid_end, escaped_end}
use Rattle.po_strings.proofs.written_length.Goals as goal

pub loop-point-init : goal.loop-point-init
loop-point-init c =
    let a = c.args in
    let e = left_all a.image.now a.t in
    (omega arith, omega arith, rw e c.requires.2, rw e (omega arith))

pub overflow_add-n : goal.overflow_add-n
overflow_add-n c =
    let p = c.in-Some.ensures in
    omega (arith, c.loop-point.invariant.1, c.point_length-n.ensures.1, p.2, p.3, c.requires.1)

pub loop-point-preserved : goal.loop-point-preserved
loop-point-preserved c =
    let p = c.in-Some.ensures in
    let l = c.loop-point in (
      omega (arith, p.3),
      omega (arith, l.invariant.1, p.2, c.point_length-n.ensures.1),
      left_valid _ _ _ p.0 l.invariant.2,
      omega (arith, l.invariant.3, c.point_length-n.ensures.0, length_parts _ _ _ p.0 l.invariant.2),
    )

pub returns : goal.returns
returns c =
    let a = c.args in
    let l = c.loop-point in
    let e = escaped_end _ (valid_end a.image.now a.t l.i c.in_default.ensures l.invariant.2) in
    (omega (arith, l.invariant.3, ap length e), omega (arith, l.invariant.1, l.invariant.0))
