use Rattle.format.proofs.RowLaws.{row_fits, row_put}
use Rattle.format.proofs.with_value.Goals as goal

pub with_field-requires : goal.with_field-requires
with_field-requires c = row_fits _ _ c.get-f.ensures c.requires.k_bound

pub returns : goal.returns
returns c = row_put _ _ c.get-f.ensures _ _ _ c.with_field.ensures
