use mathlib.Core.Bool.{not}
use mathlib.Core.Path.{◌∙◌, ap}
use native.Mathlib.Omega.{arith}
use Rattle.bits.proofs.PassLaws.{pass_none, pass_next, pass_stop, pass_end}
use Rattle.utf.specs.Utf8.{is_utf8}
use Rattle.string_edits.specs.Lists.{value_in}
use Rattle.string_edits.proofs.are_utf8.Goals as goal

pub loop-j-init : goal.loop-j-init
loop-j-init c = let a = c.args in pass_none (λ i. is_utf8 (value_in a.text.now a.ends.now i))

pub value_at-requires : goal.value_at-requires
value_at-requires c = c.requires _ c.loop-j-test.true

pub returns-then-not-is_utf8 : goal.returns-then-not-is_utf8
returns-then-not-is_utf8 c =
    let a = c.args in
    pass_stop (λ i. is_utf8 (value_in a.text.now a.ends.now i)) _ c.loop-j.j _ c.loop-j-test.true
    (c.is_utf8.ensures ∙ ap is_utf8 c.value_at.ensures.0) (ap not c.if-not-is_utf8.true)

pub loop-j-preserved : goal.loop-j-preserved
loop-j-preserved c =
    let a = c.args in
    pass_next (λ i. is_utf8 (value_in a.text.now a.ends.now i)) c.loop-j.j _
    (c.is_utf8.ensures ∙ ap is_utf8 c.value_at.ensures.0) (ap not c.if-not-is_utf8.false) c.loop-j.invariant

pub returns : goal.returns
returns c =
    let a = c.args in
    pass_end (λ i. is_utf8 (value_in a.text.now a.ends.now i)) _ _ (omega arith) c.loop-j.invariant
