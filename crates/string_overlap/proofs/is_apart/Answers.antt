use borrow.Author.Tests.{eq-eqb}
use Rattle.string_overlap.proofs.OverlapLaws.{is_other_lem}
use Rattle.string_overlap.proofs.is_apart.Goals as goal

pub returns-then-i-id : goal.returns-then-i-id
returns-then-i-id c = rw (eq-eqb c.args.i c.args.id c.if-i-id.true)

pub returns-else-i-id : goal.returns-else-i-id
returns-else-i-id c = is_other_lem c.args.i c.args.id _ _ c.if-i-id.false c.do_overlap.ensures
