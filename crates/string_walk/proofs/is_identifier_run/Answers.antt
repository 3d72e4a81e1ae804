use Rattle.string_walk.proofs.is_identifier_run.Goals as goal

pub returns : goal.returns
returns c = rw c.value.ensures.0
