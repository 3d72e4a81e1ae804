use Prim.Native.Nat.{◌-◌}
use mathlib.Core.Path.{refl, sym, ◌∙◌}
use native.Mathlib.Omega.{arith}
use lib.ListN.{length}
use Rattle.text.specs.Text.{hexes}
use Rattle.listing_lines.specs.Lines.{units_shown}
use Rattle.listing_lines.proofs.UnitLaws.{length-hexes, length_units, unit_room, unit_below, put_start, put_turn, put-end}
use Rattle.listing_lines.proofs.put_units.Goals as goal

pub loop-i-init : goal.loop-i-init
loop-i-init c =
    let a = c.args in
    (refl, put_start a.image.now a.start a.wide a.first a.n a.out.now a.at)

pub overflow_add-first : goal.overflow_add-first
overflow_add-first c =
    let a = c.args in
    let l = c.loop-i in
    omega (
      arith,
      unit_below a.image.now a.start a.wide a.first a.n l.i (length a.image.now) c.loop-i-test.true
          c.requires.wide_in_bounds,
    )

pub unit_at-requires : goal.unit_at-requires
unit_at-requires c =
    let a = c.args in
    unit_room a.image.now a.start a.wide a.first a.n c.loop-i.i (length a.image.now)
    c.loop-i-test.true c.requires.wide_in_bounds

pub loop-i-preserved : goal.loop-i-preserved
loop-i-preserved c =
    let a = c.args in
    let l = c.loop-i in
    let p = c.put_hex in (
      p.auto.out ∙ l.invariant.0,
      put_turn a.image.now a.start a.wide a.first a.n l.out p.new.out _ a.at
          l.i c.unit_at.result
          (record { left = c.loop-i-test.true; unit = c.unit_at.ensures.0; wrote = p.ensures })
          l.invariant.1,
    )

pub returns : goal.returns
returns c =
    let a = c.args in
    let l = c.loop-i in
    let us = length_units a.image.now a.start a.wide a.n a.first in
    let h = length-hexes (units_shown a.image.now a.start a.wide a.first a.n) in (
      (
        omega arith,
        sym (put-end a.image.now a.start a.wide a.first a.n l.out a.at l.i (omega arith))
            ∙ l.invariant.1,
      ),
      refl,
    )
