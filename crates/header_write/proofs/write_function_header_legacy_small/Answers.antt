use mathlib.Core.Path.{refl}
use Rattle.header_write.proofs.SlotLaws.{fresh}
use Rattle.header_write.proofs.write_function_header_legacy_small.Goals as goal

pub returns : goal.returns
returns c = fresh _ 16 _ _ _ refl c.store16.ensures c.pack.ensures
