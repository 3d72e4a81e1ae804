-- The test is that of the definition.
use Rattle.po_lines.specs.Quoted.{quote_next}
use Rattle.po_lines.proofs.after_escape.Goals as goal

pub returns-then-is_escape : goal.returns-then-is_escape
unfolding quote_next
returns-then-is_escape c = rw (← c.is_escape.ensures, c.if-is_escape.true)

pub returns-else-is_escape : goal.returns-else-is_escape
unfolding quote_next
returns-else-is_escape c = rw (← c.is_escape.ensures, c.if-is_escape.false)
