use native.Mathlib.Omega.{arith}
use Rattle.sections.proofs.SectionLaws.{sectioned}
use Rattle.function_table.proofs.TailLaws.{debug_in_lem}
use Rattle.function_table.proofs.is_debug_in_tail.Goals as goal

pub debug_of-requires : goal.debug_of-requires
debug_of-requires c = let h = sectioned c.args.p c.args.image.now c.requires in omega arith

pub returns : goal.returns
returns c = debug_in_lem _ _ c.requires _ _ c.debug_of.ensures.0 c.is_place_in_tail.ensures
