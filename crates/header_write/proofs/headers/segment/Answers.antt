use Rattle.header_write.proofs.headers.segment.Goals as goal

pub returns-then-h : goal.returns-then-h
returns-then-h c = rw c.if-h.true

pub returns-else-h : goal.returns-else-h
returns-else-h c = rw c.if-h.false
