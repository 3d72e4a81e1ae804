-- A function record as one number: its fields, its flag and its large pointer. 01, Image rules.
-- docs/FORMAT.md: Function records, Large headers.
use Rattle.std.specs.Prelude.{Bool, ℕ, ◌+◌, ◌*◌, ◌/◌, ◌%◌, ◌^◌, eqb}
use Rattle.bits.specs.Fields.{field_of, with_field}
use Rattle.format.specs.declared.Field.{Field}
use Rattle.format.specs.declared.Layout.{Layout}
use Rattle.format.specs.declared.Layout.TheVariants.{Modern, Legacy}
use Rattle.format.specs.Table.{modern_flags, modern_pointer_low, modern_pointer_high, legacy_offset, legacy_info, legacy_flags}
use Rattle.format.specs.Table.{legacy_pointer_low, large_flag}

-- what a field of a record holds
abbrev pub value_of : Field → ℕ → ℕ
value_of f n = field_of n f.at f.width

-- the record with the low bits of v in a field
abbrev pub with_value : Field → ℕ → ℕ → ℕ
with_value f v n = with_field n f.at f.width v

-- a record's flags
abbrev pub flags_row : Layout → Field
flags_row Modern = modern_flags
flags_row (Legacy big sources) = legacy_flags

-- "Flag 0x20: a large header"
unfoldable pub is_large : Layout → ℕ → Bool
is_large l n = eqb (value_of large_flag (value_of (flags_row l) n)) 1

-- the large pointer as a whole number: modern, low 24 bits plus 8 bits at bit 46 as bits 24..31; legacy, low 16 bits plus the info
-- field times 65,536
unfoldable pub pointer : Layout → ℕ → ℕ
pointer Modern n = value_of modern_pointer_high n * 2 ^ modern_pointer_low.width + value_of modern_pointer_low n
pointer (Legacy big sources) n = value_of legacy_info n * 2 ^ legacy_pointer_low.width + value_of legacy_pointer_low n

-- the record with another large pointer. Modern: bit 24 stays. Legacy: "bits 0..24 and 64..88 are rewritten whole"
unfoldable pub put_pointer : Layout → ℕ → ℕ → ℕ
put_pointer Modern p n = with_value modern_pointer_high (p / 2 ^ modern_pointer_low.width) (with_value modern_pointer_low p n)
put_pointer (Legacy big sources) p n =
    with_value legacy_info (p / 2 ^ legacy_pointer_low.width) (with_value legacy_offset (p % 2 ^ legacy_pointer_low.width) n)
