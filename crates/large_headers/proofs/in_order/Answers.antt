use mathlib.Core.Path.{ap}
use mathlib.Core.Bool.{not}
use native.Mathlib.Omega.{arith}
use Rattle.bits.proofs.PassLaws.{pass_none}
use Rattle.image.specs.Functions.{func_of}
use Rattle.function_table.specs.Functions.{as_func}
use Rattle.large_headers.proofs.OrderLaws.{OrderTurn, order_none, end_next, first_next, bodies_next, ascends_next, not_behind}
use Rattle.large_headers.proofs.OrderLaws.{order_end, image_order}
use Rattle.large_headers.proofs.in_order.Goals as goal
use Rattle.large_headers.proofs.in_order.Goals.{After-is_behind}

-- function i is tested
turn : (c : After-is_behind) → let a = c.args in
    OrderTurn c.large_width-width.result (func_of a.layout a.image.now) c.loop-i.i
    (as_func c.function_at-f.result) c.loop-i.end c.is_behind.result
turn c = record {
  is = c.function_at-f.ensures.0;
  end = c.loop-i.invariant.0;
  test = c.is_behind.ensures;
}

pub loop-i-init : goal.loop-i-init
loop-i-init c =
    let z = order_none c.large_width-width.result (func_of c.args.layout c.args.image.now) in
    (z.0, z.1, z.2, pass_none _)

pub returns-then-not-is_behind : goal.returns-then-not-is_behind
returns-then-not-is_behind c =
    image_order _ _ _ _ _ c.large_width-width.ensures.0 c.requires.n_value
    (not_behind (turn (goal.at.returns-then-not-is_behind c).After-is_behind) _ (ap not c.if-not-is_behind.true) (omega arith))

pub loop-i-preserved : goal.loop-i-preserved
loop-i-preserved c =
    let l = c.loop-i in
    let f = c.function_at-f.ensures.0 in (
      end_next _ _ l.i _ f l.end _ l.invariant.0 c.end_with-end.ensures,
      first_next _ l.i _ f l.first
          _ l.invariant.1 c.first_with-first.ensures,
      bodies_next _ l.i _ f l.bodies _ l.invariant.2 c.bodies_with-bodies.ensures,
      ascends_next (turn (goal.at.loop-i-preserved c).After-is_behind) (ap not c.if-not-is_behind.false) l.invariant.3,
    )

pub returns : goal.returns
returns c =
    let l = c.loop-i in
    image_order _ _ _ l.i _ c.large_width-width.ensures.0 (omega (arith, c.requires.n_value))
    (order_end _ _ l.i l.bodies l.first l.invariant.2 l.invariant.1 l.invariant.3)
