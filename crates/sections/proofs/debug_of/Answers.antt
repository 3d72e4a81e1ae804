use native.Mathlib.Omega.{arith}
use Rattle.sections.proofs.SectionLaws.{debug_read}
use Rattle.sections.proofs.debug_of.Goals as goal

pub returns : goal.returns
returns c = (debug_read c.args.layout c.args.image.now _ _ c.debug_at.ensures.0 c.word.ensures.0, omega arith)
