-- A slot that is too short is left; else both fields are put in its number.
use native.Mathlib.Omega.{arith}
use Rattle.header_write.proofs.SlotLaws.{slot_short, slot_done}
use Rattle.format.specs.Table.{legacy_record}
use Rattle.records.specs.Records.{put_offset_size}
use Rattle.header_write.proofs.patch_legacy_small_header_offset_size.Goals as goal

pub returns-then-slot-width : goal.returns-then-slot-width
returns-then-slot-width c = slot_short legacy_record.width _ _ (omega arith)

pub returns : goal.returns
unfolding put_offset_size
returns c =
    slot_done legacy_record.width _ _ _ _ (omega arith) c.store16.ensures
    (rw (c.with_value-sized.ensures, c.with_value-placed.ensures, c.load16.ensures))
