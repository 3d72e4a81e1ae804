use Rattle.records.proofs.RowLaws.{record_row_lem, row-placed, row-value}
use Rattle.records.proofs.value.Goals as goal

pub get-f-requires : goal.get-f-requires
get-f-requires c = (record_row_lem c.args.k c.requires).named

pub words_field-requires : goal.words_field-requires
words_field-requires c = row-placed _ _ c.get-f.ensures (record_row_lem c.args.k c.requires).placed

pub returns : goal.returns
returns c =
    row-value _ _ _ _ c.get-f.ensures c.words_field.ensures
    (record_row_lem c.args.k c.requires).small
