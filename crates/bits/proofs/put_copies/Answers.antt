-- The lent part is as long as there are copies, and all of it is written.
use Rattle.std.proofs.Common.{arith}
use Rattle.std.proofs.lemmas.List.{length-replicate}
use Rattle.bits.proofs.WriteLaws.{copies_more, copies_all, part_all, length_part}
use Rattle.bits.proofs.put_copies.Goals as goal

pub loop-place-preserved : goal.loop-place-preserved
loop-place-preserved g c =
    let a = c.args in
    let l = c.loop-place in
    copies_more _ _ a.n l.place-index a.x l.invariant (omega arith) (omega (arith, length_part a.s.now a.at a.n c.requires))

pub returns : goal.returns
returns g c =
    let a = c.args in
    let l = c.loop-place in
    let m = length_part a.s.now a.at a.n c.requires in
    let e = copies_all _ _ a.n l.place-index a.x l.invariant (omega arith) (omega (arith, m)) (omega (arith, m)) in
    rw e (part_all a.s.now _ a.at _ (omega arith) (rw length-replicate (omega arith)))
