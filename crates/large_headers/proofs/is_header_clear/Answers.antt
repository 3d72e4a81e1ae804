use mathlib.Core.Path.{ap, refl}
use lib.Dec.{eqb}
use mathlib.Core.Bool.{not}
use native.Mathlib.Omega.{arith}
use Rattle.bits.proofs.PassLaws.{pass_none, pass_next}
use Rattle.function_table.specs.Functions.{as_func}
use Rattle.large_headers.proofs.ClearLaws.{WithHeader, ClearTurn, no_header, clear_at_lem, header-not_clear, header_clear_lem}
use Rattle.large_headers.proofs.is_header_clear.Goals as goal
use Rattle.large_headers.proofs.is_header_clear.Goals.{After-is_clear_of, Else-not-g}

-- function j has a large header
headed : (c : Else-not-g) → let a = c.args in
    WithHeader a.layout a.image.now a.j a.n (as_func c.function_at-g.result)
headed c = record {
  is = c.function_at-g.ensures.0;
  large = c.if-not-g.false;
  count = c.requires.n_value.0;
}

-- function i is tested against it
turn : (c : After-is_clear_of) → let a = c.args in
    ClearTurn a.layout a.image.now a.j a.n c.loop-i.i c.large_width-width.result
    (as_func c.function_at-g.result) (as_func c.function_at-f.result) (not (eqb c.loop-i.i c.args.j))
    c.is_clear_of.result
turn c = record {
  headed = record { is = c.function_at-g.ensures.0; large = c.if-not-g.false; count = c.requires.n_value.0 };
  width = c.large_width-width.ensures.0;
  is = c.function_at-f.ensures.0;
  two = refl;
  test = c.is_clear_of.ensures;
}

pub returns-then-not-g : goal.returns-then-not-g
returns-then-not-g c = no_header _ _ _ _ c.function_at-g.ensures.0 c.if-not-g.true

pub loop-i-init : goal.loop-i-init
loop-i-init c = pass_none _

pub returns-then-not-is_clear_of : goal.returns-then-not-is_clear_of
returns-then-not-is_clear_of c =
    header-not_clear (turn (goal.at.returns-then-not-is_clear_of c).After-is_clear_of) (omega arith) (ap not c.if-not-is_clear_of.true)

pub loop-i-preserved : goal.loop-i-preserved
loop-i-preserved c =
    let l = c.loop-i in
    pass_next _ l.i _ (clear_at_lem (turn (goal.at.loop-i-preserved c).After-is_clear_of))
    (ap not c.if-not-is_clear_of.false) l.invariant

pub returns : goal.returns
returns c =
    let l = c.loop-i in
    header_clear_lem (headed (goal.at.returns c).Else-not-g) l.i (omega arith) l.invariant
