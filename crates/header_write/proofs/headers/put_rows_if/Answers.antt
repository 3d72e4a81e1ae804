use Rattle.header_write.specs.Headers.{put_all}
use Rattle.header_write.proofs.headers.put_rows_if.Goals as goal

pub returns-then-fact : goal.returns-then-fact
returns-then-fact c = rw c.if-fact.true c.put_rows.ensures

pub returns-else-fact : goal.returns-else-fact
unfolding put_all
returns-else-fact c = rw c.if-fact.false
