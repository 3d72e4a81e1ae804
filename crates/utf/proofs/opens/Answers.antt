-- By the range of the first byte, as the table of the Unicode Standard has the ranges.
use native.Mathlib.Omega.{arith}
use Rattle.utf.proofs.ReadingLaws.{small-wrong, opens-ascii, opens-none, opens_two, opens_three, opens_four, opens_past}
use borrow.Author.Tests.{eq-eqb, ne_eqb}
use Rattle.utf.proofs.opens.Goals as goal
use Rattle.utf.proofs.opens.Goals.{then-x-eq224, else-x-eq224, then-x-eq240, else-x-eq240}

pub returns-then-x-lt128 : goal.returns-then-x-lt128
returns-then-x-lt128 c =
    let b = c.args.b in
    rw c.further.ensures (opens-ascii b (omega arith))

pub returns-then-x-lt194 : goal.returns-then-x-lt194
returns-then-x-lt194 c =
    let b = c.args.b in
    rw c.wrong.ensures (opens-none b (omega arith) (omega arith), small-wrong)

pub returns-then-x-lt224 : goal.returns-then-x-lt224
returns-then-x-lt224 c =
    let b = c.args.b in
    rw c.further-then-x-lt224.ensures (opens_two b (omega arith) (omega arith))

pub returns-then-x-eq237 : goal.returns-then-x-eq237
returns-then-x-eq237 c =
    let b = c.args.b in
    let r = rw (eq-eqb b 0xED c.if-x-eq237.true) at (opens_three b c.if-x-lt224.false c.if-x-lt240.true) in
    elim c.if-x-eq224.branch [
      | then-x-eq224 w ↦ rw w.result-is (rw (eq-eqb b 0xE0 w.if-x-eq224.true) at r)
      | else-x-eq224 w ↦ rw w.result-is (rw (ne_eqb b 0xE0 w.if-x-eq224.false) at r)
    ]

pub returns-else-x-eq237 : goal.returns-else-x-eq237
returns-else-x-eq237 c =
    let b = c.args.b in
    let r = rw (ne_eqb b 0xED c.if-x-eq237.false) at (opens_three b c.if-x-lt224.false c.if-x-lt240.true) in
    elim c.if-x-eq224.branch [
      | then-x-eq224 w ↦ rw w.result-is (rw (eq-eqb b 0xE0 w.if-x-eq224.true) at r)
      | else-x-eq224 w ↦ rw w.result-is (rw (ne_eqb b 0xE0 w.if-x-eq224.false) at r)
    ]

pub returns-then-x-eq244 : goal.returns-then-x-eq244
returns-then-x-eq244 c =
    let b = c.args.b in
    let r = rw (eq-eqb b 0xF4 c.if-x-eq244.true) at (opens_four b c.if-x-lt240.false c.if-x-lt245.true) in
    elim c.if-x-eq240.branch [
      | then-x-eq240 w ↦ rw w.result-is (rw (eq-eqb b 0xF0 w.if-x-eq240.true) at r)
      | else-x-eq240 w ↦ rw w.result-is (rw (ne_eqb b 0xF0 w.if-x-eq240.false) at r)
    ]

pub returns-else-x-eq244 : goal.returns-else-x-eq244
returns-else-x-eq244 c =
    let b = c.args.b in
    let r = rw (ne_eqb b 0xF4 c.if-x-eq244.false) at (opens_four b c.if-x-lt240.false c.if-x-lt245.true) in
    elim c.if-x-eq240.branch [
      | then-x-eq240 w ↦ rw w.result-is (rw (eq-eqb b 0xF0 w.if-x-eq240.true) at r)
      | else-x-eq240 w ↦ rw w.result-is (rw (ne_eqb b 0xF0 w.if-x-eq240.false) at r)
    ]

pub returns : goal.returns
returns c =
    let b = c.args.b in
    rw c.wrong-2.ensures (opens_past b (omega arith), small-wrong)
