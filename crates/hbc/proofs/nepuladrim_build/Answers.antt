use Rattle.hbc.proofs.NumberLaws.{roomed_codes}
use Rattle.hbc.proofs.nepuladrim_build.Goals as goal

pub returns : goal.returns
returns c = roomed_codes _ _ _ _ _ _ c.build_minimal_modern.ensures c.number.ensures
