use Rattle.header_write.specs.Headers.{legacy_back, run}
use Rattle.header_write.proofs.HeaderLaws.{parts}
use Rattle.header_write.proofs.headers.put_legacy_back.Goals as goal

pub returns : goal.returns
unfolding legacy_back run
returns c =
    let l = c.args.layout in
    parts l _ _ _ _ _ (rw c.segment.ensures at c.put_rows.ensures)
    (parts l _ _ _ _ _ c.put_rows_if.ensures
    (parts l _ _ _ _ _ c.put_rows-2.ensures c.put_options.ensures))
