use native.Mathlib.Omega.{arith}
use Rattle.format.specs.Hash.{hash_from, hash_of}
use Rattle.utf.specs.Utf8.{utf16}
use Rattle.utf.proofs.UnitLaws.{ByteTaken, hash_turn, units_end}
use Rattle.utf.proofs.hash_value.Goals as goal

pub loop-b-preserved : goal.loop-b-preserved
loop-b-preserved c =
    let l = c.loop-b in
    let s = c.args.value.now in
    let n = c.next_byte-r in
    let t : ByteTaken l.r n.result s _ l.b-index =
    record { more = omega arith; next = n.ensures.0; completed = c.completed.ensures } in (
      n.ensures.1,
      rw c.hash_completed-h.ensures
          (hash_turn l.r n.result s _ l.b-index t l.h _ l.invariant.1),
    )

pub returns : goal.returns
unfolding hash_of utf16 hash_from
returns c =
    let l = c.loop-b in
    rw (units_end l.r c.args.value.now l.b-index (omega arith)) at l.invariant.1
