use Rattle.format.proofs.RowLaws.{row_write}
use Rattle.format.specs.Table.{row_of}
use Rattle.format.proofs.put_word.Goals as goal

pub returns : goal.returns
returns c = row_write (row_of c.args.k) c.requires.k_lt_row_count.1 _ _ _ _ _ c.at.ensures c.put_word.ensures
