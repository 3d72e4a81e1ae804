use mathlib.Core.Path.{sym}
use mathlib.Core.Bool.{not}
use native.Mathlib.Omega.{arith}
use borrow.Author.Tests.{eq-eqb, ne_eqb}
use lib.Dec.{eqb}
use lib.ListN.{get_or}
use Rattle.bits.proofs.TestLaws.{all_fails}
use Rattle.bits.proofs.PassLaws.{pass_none, pass_more, pass_end}
use Rattle.string_edits.proofs.is_new.Goals as goal

pub loop-i-init : goal.loop-i-init
loop-i-init c = let a = c.args in pass_none (λ k. not (eqb (get_or a.ids.now k 0) (get_or a.ids.now a.j 0)))

pub returns-then-ids-i : goal.returns-then-ids-i
returns-then-ids-i c =
    let a = c.args in
    sym (all_fails (λ k. not (eqb (get_or a.ids.now k 0) (get_or a.ids.now a.j 0))) _ c.loop-i.i
    c.loop-i-test.true
    (rw (eq-eqb (get_or a.ids.now c.loop-i.i 0) (get_or a.ids.now a.j 0) c.if-ids-i.true)))

pub loop-i-preserved : goal.loop-i-preserved
loop-i-preserved c =
    let a = c.args in
    pass_more (λ k. not (eqb (get_or a.ids.now k 0) (get_or a.ids.now a.j 0))) c.loop-i.i
    (rw (ne_eqb (get_or a.ids.now c.loop-i.i 0) (get_or a.ids.now a.j 0) c.if-ids-i.false)) c.loop-i.invariant

pub returns : goal.returns
returns c =
    let a = c.args in
    pass_end (λ k. not (eqb (get_or a.ids.now k 0) (get_or a.ids.now a.j 0))) _ _ (omega arith) c.loop-i.invariant
