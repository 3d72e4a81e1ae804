use mathlib.Core.Path.{ap}
use mathlib.Core.Bool.{not}
use native.Mathlib.Omega.{arith}
use Rattle.bits.proofs.PassLaws.{pass_none, pass_next, pass_stop, pass_end}
use Rattle.po_targets.specs.Marks.{settled}
use Rattle.po_targets.proofs.are_found.Goals as goal

pub loop-q-init : goal.loop-q-init
loop-q-init c =
    let a = c.args in
    pass_none (settled a.text.now a.ends.now a.m a.work.now)

pub word_at-requires : goal.word_at-requires
word_at-requires c =
    let q = c.requires in
    omega (arith, q.0.few, q.1, c.loop-q-test.true)

pub is_settled-requires : goal.is_settled-requires
is_settled-requires c =
    let q = c.requires.0 in
    let h = c.loop-q-test.true in
    (q.within _ (omega arith), q.within _ (omega arith), omega (arith, q.few, q.most))

pub returns-then-not-is_settled : goal.returns-then-not-is_settled
returns-then-not-is_settled c =
    let a = c.args in
    pass_stop (settled a.text.now a.ends.now a.m a.work.now) _ c.loop-q.q _ c.loop-q-test.true
    (rw c.word_at.ensures.0 at c.is_settled.ensures) (ap not c.if-not-is_settled.true)

pub loop-q-preserved : goal.loop-q-preserved
loop-q-preserved c =
    let a = c.args in
    pass_next (settled a.text.now a.ends.now a.m a.work.now) c.loop-q.q _
    (rw c.word_at.ensures.0 at c.is_settled.ensures) (ap not c.if-not-is_settled.false) c.loop-q.invariant

pub returns : goal.returns
returns c =
    let l = c.loop-q in
    let a = c.args in
    pass_end (settled a.text.now a.ends.now a.m a.work.now) _ _ (omega arith) l.invariant
