use Rattle.format.proofs.RowLaws.{row_read}
use Rattle.format.specs.Table.{row_of}
use Rattle.format.proofs.word.Goals as goal

pub returns : goal.returns
returns c = (row_read (row_of c.args.k) c.requires.k_lt_row_count.1 _ _ _ _ c.at.ensures c.word.ensures.0, c.word.ensures.1)
