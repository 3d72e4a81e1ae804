-- A slot that is too short is left, and so is one whose sum does not fit; else the moved record is what is stored.
use Rattle.std.proofs.lemmas.Result.{err_from_is_err_and}
use native.Mathlib.Omega.{arith}
use mathlib.Core.Path.{◌≡◌, ap, sym, ◌∙◌}
use mathlib.Core.Bool.{false}
use Rattle.format.specs.declared.Layout.TheVariants.{Legacy}
use mir.Facts.{to_z-of_z}
use Rattle.bits.specs.Bytes.{number_at}
use Rattle.format.specs.Table.{legacy_record}
use Rattle.records.specs.Records.{as_edited, shift_pointer}
use Rattle.header_write.proofs.SlotLaws.{none_refused, some_kept, slot_short, slot_beyond, slot_done}
use Rattle.header_write.proofs.shift_legacy_large_pointer.Goals as goal
use Rattle.header_write.proofs.shift_legacy_large_pointer.Goals.{After-shift_legacy_pointer}

-- the record that the code made
moved_is : (c : After-shift_legacy_pointer) → let a = c.args in
    as_edited c.shift_legacy_pointer.result
    ≡ shift_pointer (Legacy false false) a.delta (number_at a.slot.now 0 legacy_record.width)
moved_is c = c.shift_legacy_pointer.ensures ∙ rw (c.load16.ensures, to_z-of_z c.ranges.delta)

pub returns-then-slot-width : goal.returns-then-slot-width
returns-then-slot-width c = slot_short legacy_record.width _ _ (omega arith)

pub returns-in_err-words : goal.returns-in_err-words
returns-in_err-words c =
    let p = err_from_is_err_and c.from_residual.result c.from_residual.ensures.1 in
    let n = none_refused _ _ _ (sym c.ok_or.ensures.value ∙ c.in_err-words.was) in
    rw (p.1, p.2, n.1)
    (slot_beyond legacy_record.width _ _ (omega arith)
    (sym (ap as_edited n.0) ∙ moved_is (goal.at.returns-in_err-words c).After-shift_legacy_pointer))

pub returns : goal.returns
returns c =
    let s = some_kept _ _ _ (sym c.ok_or.ensures.value ∙ c.in_ok-words.was) in
    slot_done legacy_record.width _ _ _ _ (omega arith) c.store16.ensures
    (sym (ap as_edited s) ∙ moved_is (goal.at.returns c).After-shift_legacy_pointer)
