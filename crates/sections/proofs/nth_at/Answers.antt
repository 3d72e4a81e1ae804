use mathlib.Core.Path.{refl}
use native.Mathlib.Omega.{arith}
use Rattle.sections.proofs.SectionLaws.{nth_within}
use Rattle.sections.proofs.nth_at.Goals as goal

pub overflow_mul-result : goal.overflow_mul-result
overflow_mul-result c = record { fits = omega (arith, nth_within 0 c.args.i c.args.size c.requires.2) }

pub overflow_add-result : goal.overflow_add-result
overflow_add-result c = record { fits = omega (arith, nth_within c.args.at c.args.i c.args.size c.requires.2) }

pub returns : goal.returns
returns c = (refl, nth_within _ _ _ c.requires.2)
