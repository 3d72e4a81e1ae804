use mathlib.Core.Path.{ap}
use mathlib.Core.Bool.{not}
use native.Mathlib.Omega.{arith}
use lib.ListN.{get_or}
use Rattle.bits.proofs.PassLaws.{pass_none, pass_next, pass_stop, pass_end}
use Rattle.string_edits.specs.Lists.{is_new}
use Rattle.string_edits.proofs.are_different.Goals as goal

pub loop-j-init : goal.loop-j-init
loop-j-init c = pass_none (is_new (λ i. get_or c.args.ids.now i 0))

pub returns-then-not-is_new : goal.returns-then-not-is_new
returns-then-not-is_new c =
    let a = c.args in
    pass_stop (is_new (λ i. get_or a.ids.now i 0)) _ c.loop-j.j _ c.loop-j-test.true c.is_new.ensures
    (ap not c.if-not-is_new.true)

pub loop-j-preserved : goal.loop-j-preserved
loop-j-preserved c =
    let a = c.args in
    pass_next (is_new (λ i. get_or a.ids.now i 0)) c.loop-j.j _ c.is_new.ensures (ap not c.if-not-is_new.false)
    c.loop-j.invariant

pub returns : goal.returns
returns c =
    let a = c.args in
    pass_end (is_new (λ i. get_or a.ids.now i 0)) _ _ (omega arith) c.loop-j.invariant
