use Rattle.format.specs.Record.{is_large}
use Rattle.function_table.proofs.is_large.Goals as goal

pub returns : goal.returns
unfolding is_large
returns c = rw (c.value.ensures.0, c.flags_of.ensures)
