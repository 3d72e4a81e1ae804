use Rattle.hbc.proofs.NumberLaws.{roomed_codes}
use Rattle.hbc.proofs.nepuladrim_look_up.Goals as goal

pub returns : goal.returns
returns c = rw (← c.look_up.ensures) (roomed_codes _ _ _ _ _ _ c.put_looked_up.ensures c.number.ensures)
