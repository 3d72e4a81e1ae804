use mathlib.Core.Path.{sym, ◌∙◌}
use native.Mathlib.Omega.{arith}
use Rattle.footer.proofs.SameLaws.{longer_differs}
use Rattle.string_find.proofs.FindLaws.{length_at}
use Rattle.po_strings.specs.Texts.{units_in}
use Rattle.po_strings.proofs.UnitLaws.{same_start, differ, agree, same_end}
use Rattle.po_strings.proofs.have_same_units.Goals as goal

pub returns-then-a-b : goal.returns-then-a-b
returns-then-a-b c =
    let d = c.args in
    let s = d.image.now in
    longer_differs (units_in s d.a) (units_in s d.b)
    (λ e. c.if-a-b.true
    (sym (length_at s d.a.start d.a.wide 0 d.a.count) ∙ e ∙ length_at s d.b.start d.b.wide 0 d.b.count))

pub loop-i-init : goal.loop-i-init
loop-i-init c = let d = c.args in same_start d.image.now d.a d.b

pub unit_of-requires : goal.unit_of-requires
unit_of-requires c = (c.requires.0, c.loop-i-test.true)

pub unit_of-requires-in-loop-i : goal.unit_of-requires-in-loop-i
unit_of-requires-in-loop-i c = (c.requires.1, omega (arith, c.loop-i-test.true, c.if-a-b.false))

pub returns-then-unit_of : goal.returns-then-unit_of
returns-then-unit_of c =
    let d = c.args in
    let k = c.loop-i-test.true in
    differ d.image.now d.a d.b c.loop-i.i k (omega (arith, k, c.if-a-b.false)) _ c.loop-i.invariant
    (λ e. c.if-unit_of.true (c.unit_of.ensures.0 ∙ e ∙ sym c.unit_of-in-loop-i.ensures.0))

pub loop-i-preserved : goal.loop-i-preserved
loop-i-preserved c =
    let d = c.args in
    let k = c.loop-i-test.true in
    agree d.image.now d.a d.b c.loop-i.i k (omega (arith, k, c.if-a-b.false)) _ c.loop-i.invariant
    (sym c.unit_of.ensures.0 ∙ c.if-unit_of.false ∙ c.unit_of-in-loop-i.ensures.0)

pub returns : goal.returns
returns c =
    let d = c.args in
    same_end d.image.now d.a d.b c.loop-i.i _ c.loop-i-test.false (omega (arith, c.loop-i-test.false, c.if-a-b.false))
    c.loop-i.invariant
