use native.Mathlib.Omega.{arith}
use Rattle.string_edits.proofs.ToldLaws.{mark_next, mark_skip, mark_none}
use Rattle.string_edits.proofs.next_marked.Goals as goal

pub loop-id-init : goal.loop-id-init
loop-id-init c = λ i h k. absurd (omega arith)

pub returns-then-mark-gt0 : goal.returns-then-mark-gt0
returns-then-mark-gt0 c =
    let a = c.args in
    let l = c.loop-id in
    mark_next a.marks.now a.from l.id l.invariant _ c.wide-mark.ensures.0 c.if-mark-gt0.true c.loop-id-test.true
    (omega arith)

pub loop-id-preserved : goal.loop-id-preserved
loop-id-preserved c =
    let a = c.args in
    let l = c.loop-id in
    mark_skip a.marks.now a.from l.id l.invariant (omega (arith, c.if-mark-gt0.false, c.wide-mark.ensures.0))

pub returns : goal.returns
returns c =
    let a = c.args in
    let l = c.loop-id in
    mark_none a.marks.now a.from l.id l.invariant c.loop-id-test.false c.requires
