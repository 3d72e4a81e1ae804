use Rattle.string_index.proofs.entry_of.Goals as goal

pub returns : goal.returns
returns c = rw (c.flags_of.ensures, c.is_identifier.ensures)
