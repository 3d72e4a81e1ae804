-- Past the storage, wide, or narrow: one way out for each.
use mathlib.Core.Path.{◌∙◌}
use native.Mathlib.Omega.{arith}
use borrow.Author.Tests.{lt-leb}
use Rattle.sections.proofs.SectionLaws.{sectioned}
use Rattle.string_tables.specs.Strings.{as_place}
use Rattle.string_tables.proofs.StringLaws.{leaves_storage, wide_stored, narrow_stored}
use Rattle.string_tables.proofs.is_stored.Goals as goal

pub overflow_add-p : goal.overflow_add-p
overflow_add-p c =
    let h = sectioned c.args.p c.args.image.now c.requires.placed in
    omega arith

pub are_narrow-requires : goal.are_narrow-requires
are_narrow-requires c =
    let h = sectioned c.args.p c.args.image.now c.requires.placed in
    omega arith

pub returns-then-place : goal.returns-then-place
returns-then-place c =
    c.if-place.true
    ∙ wide_stored _ _ (as_place c.args.place) _
    (record { placed = c.requires.placed; size = c.size_of.ensures.0; ends = c.if-place-size_of.true }) c.if-place.true

pub returns-else-place : goal.returns-else-place
returns-else-place c =
    narrow_stored _ _ (as_place c.args.place) _
    (record { placed = c.requires.placed; size = c.size_of.ensures.0; ends = c.if-place-size_of.true }) c.if-place.false _
    c.are_narrow.ensures

pub returns-else-place-size_of : goal.returns-else-place-size_of
returns-else-place-size_of c =
    lt-leb _ _ c.if-place-size_of.false
    ∙ leaves_storage _ _ (as_place c.args.place) _ c.requires.placed c.size_of.ensures.0 c.if-place-size_of.false
