-- A slot that is too short is left, and so is one whose sum does not fit; else the moved record is what is stored.
use Rattle.std.proofs.lemmas.Result.{err_from_is_err_and}
use native.Mathlib.Omega.{arith}
use mathlib.Core.Path.{◌≡◌, ap, sym, ◌∙◌}
use Rattle.format.specs.declared.Layout.TheVariants.{Modern}
use mir.Facts.{to_z-of_z}
use Rattle.bits.specs.Bytes.{number_at}
use Rattle.format.specs.Table.{modern_record}
use Rattle.records.specs.Records.{as_edited, shift_small}
use Rattle.header_write.proofs.SlotLaws.{none_refused, some_kept, slot_short, slot_beyond, slot_done}
use Rattle.header_write.proofs.shift_modern_small_header_offset.Goals as goal
use Rattle.header_write.proofs.shift_modern_small_header_offset.Goals.{After-shift_modern_offset}

-- the record that the code made
moved_is : (c : After-shift_modern_offset) → let a = c.args in
    as_edited c.shift_modern_offset.result ≡ shift_small Modern a.delta (number_at a.slot.now 0 modern_record.width)
moved_is c = c.shift_modern_offset.ensures ∙ rw (c.load12.ensures, to_z-of_z c.ranges.delta)

pub returns-then-slot-width : goal.returns-then-slot-width
returns-then-slot-width c = slot_short modern_record.width _ _ (omega arith)

pub returns-in_err-words : goal.returns-in_err-words
returns-in_err-words c =
    let p = err_from_is_err_and c.from_residual.result c.from_residual.ensures.1 in
    let n = none_refused _ _ _ (sym c.ok_or.ensures.value ∙ c.in_err-words.was) in
    rw (p.1, p.2, n.1)
    (slot_beyond modern_record.width _ _ (omega arith)
    (sym (ap as_edited n.0) ∙ moved_is (goal.at.returns-in_err-words c).After-shift_modern_offset))

pub returns : goal.returns
returns c =
    let s = some_kept _ _ _ (sym c.ok_or.ensures.value ∙ c.in_ok-words.was) in
    slot_done modern_record.width _ _ _ _ (omega arith) c.store12.ensures
    (sym (ap as_edited s) ∙ moved_is (goal.at.returns c).After-shift_modern_offset)
