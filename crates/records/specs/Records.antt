-- A row of the table that is a field of a record, and the edits of a record. 01, Image rules and Bodies; 02, No. 8.
-- docs/FORMAT.md: Function records, Record leaves.
use Rattle.std.specs.Prelude.{Bool, true, ℕ, ◌+◌, ◌%◌, ◌^◌, ℤ, leb, ltb, eqb, None, Option, Some}
use Rattle.bits.specs.Choice.{pick, both}
use Rattle.bits.specs.Words.{whole}
use Rattle.format.specs.declared.Field.{Field}
use Rattle.format.specs.declared.Layout.{Layout}
use Rattle.format.specs.declared.Layout.TheVariants.{Modern, Legacy}
use Rattle.format.specs.Table.{row_of, row_count, modern_offset, modern_size, modern_flags, legacy_offset, legacy_params, legacy_size}
use Rattle.format.specs.Table.{legacy_name, legacy_info, legacy_frame, legacy_environment, legacy_read_cache, legacy_write_cache}
use Rattle.format.specs.Table.{legacy_flags}
use Rattle.format.specs.Record.{value_of, with_value, pointer, put_pointer}
use Rattle.records.specs.Sum.{summed, word_bits}
use Rattle.records.specs.declared.LegacyFunctionHeader.{LegacyFunctionHeader}
use Rattle.records.specs.declared.ModernFunctionHeader.{ModernFunctionHeader}
use Rattle.bits.specs.declared.Words.{Words}

-- row k is a field of a record: it lies in one of its two words, and its value fits 32 bits
abbrev pub is_record_row : ℕ → Bool
is_record_row k =
    let f = row_of k in
    both (ltb k row_count) (both (leb f.width 32)
    (both (ltb f.at 128) (both (leb (f.width + f.at) 128) (pick (ltb f.at 64) (leb (f.width + f.at) 64) true))))

-- ---- sums

-- delta added to what a field holds
abbrev pub field_sum : Field → ℤ → ℕ → Option ℕ
field_sum f delta n = summed f.width delta (value_of f n)

-- delta added to a legacy info place: "info 0 and debug 0 never move"
unfoldable pub info_sum : ℤ → ℕ → Option ℕ
info_sum delta n = pick (eqb (value_of legacy_info n) 0) (Some 0) (field_sum legacy_info delta n)

-- ---- edits

-- a record after an edit, as a number; none where a sum does not fit
pub data Edited : Type 0 where
  edited : ℕ → Edited
  beyond : Edited

-- the code's answer as this
abbrev pub as_edited : Option Words → Edited
as_edited (Some w) = edited (whole w)
as_edited None = beyond

-- what is made of a sum that fits
abbrev pub with_sum : Option ℕ → (ℕ → Edited) → Edited
with_sum (Some v) edit = edit v
with_sum None edit = beyond

-- a record without a large header: its body offset, and legacy its info place; where either sum does not fit, neither is written
unfoldable pub shift_small : Layout → ℤ → ℕ → Edited
shift_small Modern delta n = with_sum (field_sum modern_offset delta n) (λ offset. edited (with_value modern_offset offset n))
shift_small (Legacy big sources) delta n =
    with_sum (field_sum legacy_offset delta n)
    (λ offset. with_sum (info_sum delta n) (λ info. edited (with_value legacy_info info (with_value legacy_offset offset n))))

-- the large pointer as a reader gives it: "modulo 2^32"
unfoldable pub pointer_read : Layout → ℕ → ℕ
pointer_read l n = pointer l n % 2 ^ 32

-- a record with a large header: delta is added to the pointer as a whole number, "before any modulo"
unfoldable pub shift_pointer : Layout → ℤ → ℕ → Edited
shift_pointer l delta n = with_sum (summed word_bits delta (pointer l n)) (λ p. edited (put_pointer l p n))

-- the body's offset and size, each cut to its field
unfoldable pub put_offset_size : ℕ → ℕ → ℕ → Edited
put_offset_size offset size n = edited (with_value legacy_size size (with_value legacy_offset offset n))

-- ---- all fields at once

-- the fields of a legacy record's low word, each cut to its width
unfoldable pub packed_low : LegacyFunctionHeader → ℕ
packed_low h =
    with_value legacy_name h.function_name
    (with_value legacy_size h.bytecode_size (with_value legacy_params h.param_count (with_value legacy_offset h.offset 0)))

-- those, and the info place, frame and environment
unfoldable pub packed_middle : LegacyFunctionHeader → ℕ
packed_middle h =
    with_value legacy_environment h.environment_size
    (with_value legacy_frame h.frame_size (with_value legacy_info h.info_offset (packed_low h)))

-- a legacy record from its fields, each cut to its width
unfoldable pub packed : LegacyFunctionHeader → ℕ
packed h =
    with_value legacy_flags h.flags
    (with_value legacy_write_cache h.highest_write_cache (with_value legacy_read_cache h.highest_read_cache (packed_middle h)))

-- the fields of a legacy record
unfoldable pub legacy_fields : ℕ → LegacyFunctionHeader
legacy_fields n =
    record {
      offset = value_of legacy_offset n;
      param_count = value_of legacy_params n;
      bytecode_size = value_of legacy_size n;
      function_name = value_of legacy_name n;
      info_offset = value_of legacy_info n;
      frame_size = value_of legacy_frame n;
      environment_size = value_of legacy_environment n;
      highest_read_cache = value_of legacy_read_cache n;
      highest_write_cache = value_of legacy_write_cache n;
      flags = value_of legacy_flags n;
    }

-- the fields of a modern record that 01 names
unfoldable pub modern_fields : ℕ → ModernFunctionHeader
modern_fields n = record { offset = value_of modern_offset n; bytecode_size = value_of modern_size n; flags = value_of modern_flags n }
