-- An entry with a pair that is not there is refused before its place is read.
use mathlib.Core.Path.{ap, ◌∙◌}
use mathlib.Core.Bool.{not}
use native.Mathlib.Omega.{arith}
use Rattle.sections.proofs.SectionLaws.{sectioned}
use Rattle.string_tables.proofs.StringLaws.{entry_misnumbered, entry-numbered, has_pair}
use Rattle.string_tables.proofs.is_entry_good.Goals as goal

pub read_place-requires : goal.read_place-requires
read_place-requires c =
    let h = sectioned c.args.p c.args.image.now c.requires.placed in
    let n = has_pair _ _ _ _ _ (record {
      placed = c.requires.placed;
      tested = c.is_numbered.ensures;
      good = (ap not c.if-is_numbered.true);
    }) in
    record {
      pairs_bound = (omega arith, omega arith);
      width_in_bounds = n;
    }

pub returns-then-is_numbered : goal.returns-then-is_numbered
returns-then-is_numbered c =
    entry-numbered _ _ _ _ _
    (record { placed = c.requires.placed; tested = c.is_numbered.ensures; good = (ap not c.if-is_numbered.true) }) _ _
    c.read_place.ensures.place c.is_stored.ensures

pub returns-else-is_numbered : goal.returns-else-is_numbered
returns-else-is_numbered c =
    c.if-is_numbered.false
    ∙ entry_misnumbered _ _ _ _ _ c.requires.placed c.is_numbered.ensures (ap not c.if-is_numbered.false)
