use Rattle.sections.proofs.entry_at.Goals as goal

pub returns : goal.returns
returns c = rw (← c.width.ensures) c.nth_at.ensures.0
