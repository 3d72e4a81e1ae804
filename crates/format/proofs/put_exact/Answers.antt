use Rattle.format.proofs.RowLaws.{row_write, row_back}
use Rattle.format.specs.Table.{row_of}
use Rattle.format.proofs.put_exact.Goals as goal

pub returns : goal.returns
returns c =
    let f = row_of c.args.k in
    let w = c.requires.k_lt_row_count.1 in (
      row_write f w _ _ _ _ _ c.at.ensures c.put_exact.ensures.0,
      row_back f w _ _ _ _ c.at.ensures c.put_exact.ensures.1,
    )
