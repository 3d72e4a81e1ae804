use mathlib.Core.Path.{sym}
use native.Mathlib.Omega.{arith}
use borrow.Author.Tests.{lt-ltb, le-ltb}
use lib.Dec.{ltb}
use lib.ListN.{get_or}
use Rattle.bits.proofs.TestLaws.{all_fails}
use Rattle.bits.proofs.PassLaws.{pass_none, pass_more, pass_end}
use Rattle.string_edits.proofs.are_known.Goals as goal

pub loop-id-init : goal.loop-id-init
loop-id-init c = let a = c.args in pass_none (λ i. ltb (get_or a.ids.now i 0) a.strings)

pub returns-then-strings-wide : goal.returns-then-strings-wide
returns-then-strings-wide c =
    let a = c.args in
    sym (all_fails (λ i. ltb (get_or a.ids.now i 0) a.strings) _ c.loop-id.id-index c.loop-id-test.true
    (le-ltb (get_or a.ids.now c.loop-id.id-index 0) a.strings (omega (arith, c.if-strings-wide.true, c.wide.ensures.0))))

pub loop-id-preserved : goal.loop-id-preserved
loop-id-preserved c =
    let a = c.args in
    pass_more (λ i. ltb (get_or a.ids.now i 0) a.strings) c.loop-id.id-index
    (lt-ltb (get_or a.ids.now c.loop-id.id-index 0) a.strings (omega (arith, c.if-strings-wide.false, c.wide.ensures.0)))
    c.loop-id.invariant

pub returns : goal.returns
returns c =
    let a = c.args in
    pass_end (λ i. ltb (get_or a.ids.now i 0) a.strings) _ _ (omega arith) c.loop-id.invariant
