use Rattle.format.proofs.RowLaws.{row_fits, row-value}
use Rattle.format.proofs.value.Goals as goal

pub field-requires : goal.field-requires
field-requires c = row_fits _ _ c.get-f.ensures c.requires.k_bound

pub returns : goal.returns
returns c = row-value _ _ c.get-f.ensures _ _ c.field.ensures
