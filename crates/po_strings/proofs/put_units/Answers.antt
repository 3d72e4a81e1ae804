use mathlib.Core.Path.{refl, ap, ◌∙◌}
use native.Mathlib.Omega.{arith}
use lib.ListN.{length}
use Rattle.po_strings.proofs.UnitLaws.{left_all}
use Rattle.po_strings.proofs.PointLaws.{point_there, left_valid, length_parts, put_turn, valid_end, escaped_end}
use Rattle.po_strings.proofs.put_units.Goals as goal

pub loop-point-init : goal.loop-point-init
loop-point-init c =
    let a = c.args in
    let e = left_all a.image.now a.t in
    (omega arith, refl, rw e c.requires.inside.1, rw e, rw e)

pub put_point-to-requires : goal.put_point-to-requires
put_point-to-requires c =
    let f = c.in-Some.ensures.0 in
    let l = c.loop-point in (
      point_there _ _ _ f l.invariant.2,
      omega (
        arith,
        c.requires.t_in_bounds,
        l.invariant.1,
        l.invariant.3,
        length_parts _ _ _ f l.invariant.2,
      ),
    )

pub loop-point-preserved : goal.loop-point-preserved
loop-point-preserved c =
    let q = c.in-Some.ensures in
    let l = c.loop-point in
    let p = c.put_point-to in (
      omega (arith, q.3),
      p.auto.out ∙ l.invariant.1,
      left_valid _ _ _ q.0 l.invariant.2,
      omega (arith, l.invariant.3, p.ensures.0, length_parts _ _ _ q.0 l.invariant.2),
      put_turn _ _ _ q.0 l.invariant.2 l.out _ _ l.to _ p.ensures l.invariant.4,
    )

pub returns : goal.returns
returns c =
    let a = c.args in
    let l = c.loop-point in
    let e = escaped_end _ (valid_end a.image.now a.t l.i c.in_default.ensures l.invariant.2) in
    (omega (arith, l.invariant.3, ap length e), rw e at l.invariant.4)
