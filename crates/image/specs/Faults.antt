-- What is wrong with an image that is refused, in propositions. 01, Refusal numbers: its table, a constructor for each condition.
-- The law `refused_exactly` says that an image is refused with n exactly where fault n is there and none of a lower number is.
-- docs/FORMAT.md: Refusals, Admission.
use Rattle.std.specs.Prelude.{◌≡◌, true, false, ◌⊎◌, ◌≢◌, List, ℕ, ◌+◌, ◌≤◌, ◌<◌, length, get_or}
use Rattle.refusals.specs.Numbers as refusals
use Rattle.bits.specs.Bytes.{number_at}
use Rattle.format.specs.declared.Layout.{Layout}
use Rattle.format.specs.Table.{entry_offset, large_row}
use Rattle.format.specs.Record.{value_of}
use Rattle.footer.specs.Footer.{footer_length}
use Rattle.image.specs.Sections.{functions_in, kinds_in, identifiers_in, strings_in, overflows_in, storage_in, debug_in}
use Rattle.image.specs.Sections.{storage_at, tail_at}
use Rattle.image.specs.Strings.{is_full, over_before, small_in, place_at, size_of}
use Rattle.image.specs.Kinds.{kind_in, covered, identified}
use Rattle.image.specs.Functions.{func_of}

-- n bytes from p: "starts before the tail or ends past the footer's start"
abbrev pub OutOfTail : Layout → List ℕ → ℕ → ℕ → Type 0
OutOfTail l s p n = (p < tail_at l s) ⊎ (length s < p + n + footer_length)

-- place x is one of n bytes from p
abbrev pub Among : ℕ → ℕ → ℕ → Type 0
Among x p n = (p ≤ x) × (x < p + n)

-- m bytes from p and n bytes from q "share a byte"
abbrev pub ShareByte : ℕ → ℕ → ℕ → ℕ → Type 0
ShareByte p m q n = (x : ℕ) × Among x p m × Among x q n

-- fault n of the bytes s under layout l
pub data Fault (l : Layout) (s : List ℕ) : ℕ → Type 0 where
  -- 1 size: "image under 148 or over 67,108,864 bytes"
  short : length s < 148 → Fault l s refusals.size
  long : 67_108_864 < length s → Fault l s refusals.size
  -- 2 magic: "wrong first 8 bytes"
  magic : number_at s 0 8 ≢ 0x1F1903C103BC1FC6 → Fault l s refusals.magic
  -- 3 sections: "tail start past length minus 20"
  sections : length s < tail_at l s + footer_length → Fault l s refusals.sections
  -- 4 kinds: "counts differ from string count, or identifiers from identifier count"
  kinds : covered (kind_in l s) (kinds_in s) ≢ strings_in s → Fault l s refusals.kinds
  identifiers : identified (kind_in l s) (kinds_in s) ≢ identifiers_in s → Fault l s refusals.kinds
  -- 5 string: "overflow entries differ in number from the count"
  overflows : over_before (small_in l s) (strings_in s) ≢ overflows_in s → Fault l s refusals.string
  -- "the k-th (from 0) has another offset field than k"
  misnumbered : (i : ℕ) → i < strings_in s → is_full (small_in l s i) ≡ true
      → value_of entry_offset (small_in l s i) ≢ over_before (small_in l s) i → Fault l s refusals.string
  -- "a string leaves storage"
  leaves : (i : ℕ) → i < strings_in s → storage_in s < (place_at l s i).at + size_of (place_at l s i) → Fault l s refusals.string
  -- "a narrow byte exceeds 0x7F"
  exceeds : (i j : ℕ) → i < strings_in s → (place_at l s i).wide ≡ false → j < (place_at l s i).count
      → 0x7F < get_or s (storage_at l s + (place_at l s i).at + j) 0
      → Fault l s refusals.string
  -- 6 function: "a body (one at 0 too)" out of the tail
  body : (i : ℕ) → i < functions_in s → OutOfTail l s (func_of l s i).begin (func_of l s i).size → Fault l s refusals.function
  -- "a nonzero info or debug place"; it "has no width"
  info : (i : ℕ) → i < functions_in s → (func_of l s i).info ≢ 0 → OutOfTail l s (func_of l s i).info 0
      → Fault l s refusals.function
  debug : debug_in l s ≢ 0 → OutOfTail l s (debug_in l s) 0 → Fault l s refusals.function
  -- "or a large header's words (20 bytes legacy, 16 modern)"; its pointer is "judged as a whole number"
  header : (i : ℕ) → i < functions_in s → (func_of l s i).large ≡ true → OutOfTail l s (func_of l s i).ptr (large_row l).width
      → Fault l s refusals.function
  -- "the words of a record's large header share a byte with those of another record's"
  headers : (i j : ℕ) → i < functions_in s → j < functions_in s → i ≢ j → (func_of l s i).large ≡ true
      → (func_of l s j).large ≡ true
      → ShareByte (func_of l s i).ptr (large_row l).width (func_of l s j).ptr (large_row l).width → Fault l s refusals.function
  -- "or with any body"
  bodies : (i j : ℕ) → i < functions_in s → j < functions_in s → (func_of l s i).large ≡ true
      → ShareByte (func_of l s i).ptr (large_row l).width (func_of l s j).begin (func_of l s j).size → Fault l s refusals.function
