-- When a shift is refused, in propositions. 01, refusal 1; 02, No. 8. The law `refused_exactly` says that a shift is refused with n
-- exactly where fault n is there and none that comes before n in the order of shifts is.
-- docs/FORMAT.md: Record leaves, Order.
use Rattle.std.specs.Prelude.{Bool, ◌≢◌, List, ℕ, ◌+◌, ◌<◌, ℤ, pos, ◌+ℤ◌, length}
use Rattle.refusals.specs.Numbers as refusals
use Rattle.bits.specs.Bytes.{number_at, word_at}
use Rattle.bits.specs.Outcome.{Outcome}
use Rattle.format.specs.declared.Layout.{Layout}
use Rattle.format.specs.declared.Layout.TheVariants.{Modern, Legacy}
use Rattle.format.specs.Table as table
use Rattle.format.specs.Record.{value_of, pointer}
use Rattle.records.specs.Sum.{SumOutside}
use Rattle.records.specs.Records.{shift_small, shift_pointer}
use Rattle.header_write.specs.Slots.{on_slot, shift_word}

-- "the two small-record shifts, the two large-pointer shifts and the word shift"
pub data Shift : Type 0 where
  of_small : Layout → Shift
  of_pointer : Layout → Shift
  of_word : ℕ → Shift

-- what a shift makes of its buffer
abbrev pub shifted : Shift → ℤ → List ℕ → Outcome
shifted (of_small l) delta s = on_slot (table.record_row l).width (shift_small l delta) s
shifted (of_pointer l) delta s = on_slot (table.record_row l).width (shift_pointer l delta) s
shifted (of_word at) delta s = shift_word at delta s

-- the bytes that it needs there
abbrev pub least_for : Shift → ℕ
least_for (of_small l) = (table.record_row l).width
least_for (of_pointer l) = (table.record_row l).width
least_for (of_word at) = at + 4

-- the record in a slot
abbrev pub slot_record : Layout → List ℕ → ℕ
slot_record l s = number_at s 0 (table.record_row l).width

-- the numbers that delta is added to, behind "their width (25, 32 and 32 bits)"; an info place of 0 is none
pub data Moves (s : List ℕ) : Shift → ℕ → ℕ → Type 0 where
  modern_offset : Moves s (of_small Modern) 25 (value_of table.modern_offset (slot_record Modern s))
  legacy_offset : (b f : Bool) → Moves s (of_small (Legacy b f)) 25 (value_of table.legacy_offset (slot_record (Legacy b f) s))
  legacy_info : (b f : Bool) → value_of table.legacy_info (slot_record (Legacy b f) s) ≢ 0
      → Moves s (of_small (Legacy b f)) 25 (value_of table.legacy_info (slot_record (Legacy b f) s))
  large_pointer : (l : Layout) → Moves s (of_pointer l) 32 (pointer l (slot_record l s))
  word_there : (at : ℕ) → Moves s (of_word at) 32 (word_at s at)

pub data ShiftFault (delta : ℤ) (s : List ℕ) (t : Shift) : ℕ → Type 0 where
  -- 1 size: "a record slot, word .. too short"
  short : length s < least_for t → ShiftFault delta s t refusals.size
  -- 12 field: "a sum below 0 or past their width"
  outside : (width n : ℕ) → Moves s t width n → SumOutside width (pos n +ℤ delta) → ShiftFault delta s t refusals.field
