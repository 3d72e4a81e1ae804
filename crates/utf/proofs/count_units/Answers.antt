use native.Mathlib.Omega.{arith}
use Rattle.utf.specs.Utf8.{utf16}
use Rattle.utf.proofs.UnitLaws.{ByteTaken, weight_turn, count_turn, units_end}
use Rattle.utf.proofs.count_units.Goals as goal

pub loop-b-preserved : goal.loop-b-preserved
loop-b-preserved c =
    let l = c.loop-b in
    let s = c.args.value.now in
    let n = c.next_byte-r in
    let t : ByteTaken l.r n.result s _ l.b-index =
    record { more = omega arith; next = n.ensures.0; completed = c.completed.ensures } in (
      n.ensures.1,
      omega (
        arith,
        weight_turn l.r n.result s _ l.b-index t,
        c.count_of-n.ensures.0,
        l.invariant.1,
      ),
      rw c.count_of-n.ensures.0
          (count_turn l.r n.result s _ l.b-index t l.n _ l.invariant.2),
    )

pub returns : goal.returns
unfolding utf16
returns c =
    let l = c.loop-b in
    omega (arith, rw (units_end l.r c.args.value.now l.b-index (omega arith)) at l.invariant.2)
