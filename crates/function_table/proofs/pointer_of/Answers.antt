use Rattle.function_table.proofs.ReadLaws.{pointer_legacy}
use Rattle.function_table.proofs.pointer_of.Goals as goal

pub returns-in-Legacy : goal.returns-in-Legacy
returns-in-Legacy c = (pointer_legacy _ _ _ _ c.in-Legacy.is _ c.legacy_pointer.ensures.0, c.legacy_pointer.ensures.1)
