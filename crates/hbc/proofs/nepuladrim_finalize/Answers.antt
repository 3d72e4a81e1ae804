use Rattle.hbc.proofs.NumberLaws.{finalize_codes}
use Rattle.hbc.proofs.nepuladrim_finalize.Goals as goal

pub returns : goal.returns
returns c = finalize_codes _ _ _ _ _ c.finalize_raw_image.ensures c.number.ensures
