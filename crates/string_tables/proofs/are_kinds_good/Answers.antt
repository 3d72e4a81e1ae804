-- The two sums of the kinds are compared one after the other, each as an exact number.
use mathlib.Core.Path.{◌∙◌}
use native.Mathlib.Omega.{arith}
use borrow.Author.Tests.{ne_eqb}
use Rattle.sections.proofs.SectionLaws.{sectioned}
use Rattle.string_tables.proofs.KindLaws.{strings_differ, strings_agree}
use Rattle.string_tables.proofs.are_kinds_good.Goals as goal

pub covered_by-found-requires : goal.covered_by-found-requires
covered_by-found-requires c =
    let h = sectioned c.args.p c.args.image.now c.requires in
    (omega arith, omega arith)

pub returns-then-found-p : goal.returns-then-found-p
returns-then-found-p c = strings_agree _ _ c.requires _ _
    (c.covered_by-found.ensures.strings_value, c.covered_by-found.ensures.identifiers_value) c.if-found-p.true

pub returns-else-found-p : goal.returns-else-found-p
returns-else-found-p c = ne_eqb _ _ c.if-found-p.false ∙ strings_differ _ _ c.requires _ _
    (c.covered_by-found.ensures.strings_value, c.covered_by-found.ensures.identifiers_value) c.if-found-p.false
