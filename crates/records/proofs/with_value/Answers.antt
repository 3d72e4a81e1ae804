use mathlib.Core.Path.{◌∙◌, ap}
use Rattle.bits.specs.Fields.{with_field}
use Rattle.bits.specs.Words.{whole}
use Rattle.format.specs.declared.Field.{Field}
use Rattle.records.proofs.RowLaws.{record_row_lem, row-placed}
use Rattle.records.proofs.with_value.Goals as goal

pub get-f-requires : goal.get-f-requires
get-f-requires c = (record_row_lem c.args.k c.requires).named

pub words_with_field-requires : goal.words_with_field-requires
words_with_field-requires c = row-placed _ _ c.get-f.ensures (record_row_lem c.args.k c.requires).placed

pub returns : goal.returns
returns c =
    let a = c.args in
    c.words_with_field.ensures ∙ ap (λ (f : Field). with_field (whole a.w) f.at f.width a.v) c.get-f.ensures
