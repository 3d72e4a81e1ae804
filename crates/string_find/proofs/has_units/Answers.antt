-- Other counts differ; equal ones are compared unit by unit.
use mathlib.Core.Path.{◌∙◌}
use borrow.Author.Tests.{ne_eqb}
use Rattle.utf.specs.Utf8.{utf16}
use Rattle.string_find.proofs.FindLaws.{other_count, same_count, units_in}
use Rattle.string_find.proofs.has_units.Goals as goal

pub are_units-requires : goal.are_units-requires
are_units-requires c =
    let a = c.args in
    let q = c.requires in
    units_in a.p a.image.now (utf16 a.value.now) a.i a.string a.count
    (record { placed = q.placed.0; stands = q.placed.1; count = q.count_value }) c.if-string-count.true

pub returns-then-string-count : goal.returns-then-string-count
returns-then-string-count c =
    let a = c.args in
    let q = c.requires in
    c.are_units.ensures ∙ same_count a.p a.image.now (utf16 a.value.now) a.i a.string a.count
    (record { placed = q.placed.0; stands = q.placed.1; count = q.count_value }) c.if-string-count.true

pub returns-else-string-count : goal.returns-else-string-count
returns-else-string-count c =
    let a = c.args in
    let q = c.requires in
    rw (ne_eqb a.string.place.count a.count c.if-string-count.false)
    (other_count a.p a.image.now (utf16 a.value.now) a.i a.string a.count
    (record { placed = q.placed.0; stands = q.placed.1; count = q.count_value }) c.if-string-count.false)
