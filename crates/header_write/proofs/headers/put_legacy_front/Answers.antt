use Rattle.header_write.specs.Headers.{legacy_front, run}
use Rattle.header_write.proofs.HeaderLaws.{parts}
use Rattle.header_write.proofs.headers.put_legacy_front.Goals as goal

pub returns : goal.returns
unfolding legacy_front run
returns c = parts c.args.layout _ _ _ _ _ c.put_rows.ensures c.put_rows_if.ensures
