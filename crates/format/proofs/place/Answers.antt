use Rattle.format.proofs.place.Goals as goal

pub returns-in-Legacy : goal.returns-in-Legacy
returns-in-Legacy c = rw (c.in-Legacy.is, c.if_set.ensures.0, c.if_set-in-Legacy.ensures.0)
