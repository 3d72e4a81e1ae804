use borrow.Author.Tests.{eq-eqb, ne_eqb}
use Rattle.input_records.proofs.has_mark.Goals as goal

pub returns-then-s-a : goal.returns-then-s-a
returns-then-s-a c = rw (ne_eqb _ _ c.if-s-a.true)

pub returns : goal.returns
returns c = rw (eq-eqb _ _ c.if-s-a.false)
