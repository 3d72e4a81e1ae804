-- Fields of a record: what is put is read back, and what is not named stays.
use mathlib.Core.Path.{◌≡◌, ◌∙◌}
use mathlib.Core.Logic.{inl, inr}
use Prim.Native.Nat.{ℕ, ◌+◌, ◌/◌, ◌%◌, ◌^◌, ◌≤◌, ◌<◌}
use native.Mathlib.Nat.{mod-lt}
use native.Mathlib.Omega.{arith}
use lib.Pow.{pow_pos}
use Rattle.bits.proofs.TestLaws.{below_or}
use Rattle.bits.specs.Fields.{field_of}
use Rattle.bits.proofs.FieldLaws.{field-same, field_part, field_above, field_below, with_lt}
use Rattle.format.specs.declared.Field.{Field}
use Rattle.format.specs.declared.Layout.{Layout}
use Rattle.format.specs.declared.Layout.TheVariants.{Modern, Legacy}
use Rattle.format.specs.Table.{modern_flags, modern_pointer_low, modern_pointer_high, legacy_offset, legacy_info, legacy_flags}
use Rattle.format.specs.Table.{legacy_pointer_low, record_row}
use Rattle.format.specs.Record.{value_of, with_value, is_large, pointer, put_pointer}

-- two fields have no bit in common
abbrev pub Apart : Field → Field → Type 0
Apart f g = f.at < g.at + g.width → f.at + f.width ≤ g.at

-- a field keeps its value when another is written
pub value_kept : (f g : Field) (v n : ℕ) → Apart f g → value_of g (with_value f v n) ≡ value_of g n
value_kept f g v n o =
    elim (below_or f.at (g.at + g.width)) [
      | inl h ↦ field_above n f.at f.width v g.at g.width (omega (arith, o h))
      | inr h ↦ field_below n f.at f.width v g.at g.width (omega arith)
    ]

-- a field that is written holds the low bits of the value
pub value-put : (f : Field) (v n : ℕ) → value_of f (with_value f v n) ≡ v % 2 ^ f.width
value-put f v n = field-same n f.at f.width v

-- a field holds a number of its width
pub value-lt : (f : Field) (n : ℕ) → value_of f n < 2 ^ f.width
unfolding field_of
value-lt f n = mod-lt (n / 2 ^ f.at) (pow_pos f.width)

-- ---- the large pointer

-- the two fields that writing it rewrites
abbrev pub low_row : Layout → Field
low_row Modern = modern_pointer_low
low_row (Legacy big sources) = legacy_offset

abbrev pub high_row : Layout → Field
high_row Modern = modern_pointer_high
high_row (Legacy big sources) = legacy_info

-- it leaves every field alone that has no bit in common with these two: bit 24 of a modern record stays
pub pointer_keeps : (l : Layout) (g : Field) (p n : ℕ) → Apart (low_row l) g → Apart (high_row l) g
    → value_of g (put_pointer l p n) ≡ value_of g n
unfolding put_pointer
pointer_keeps Modern g p n a b =
    value_kept modern_pointer_high g (p / 2 ^ 24) (with_value modern_pointer_low p n) b ∙ value_kept modern_pointer_low g p n a
pointer_keeps (Legacy big sources) g p n a b =
    value_kept legacy_info g (p / 2 ^ 16) (with_value legacy_offset (p % 2 ^ 16) n) b ∙ value_kept legacy_offset g (p % 2 ^ 16) n a

pub pointer-flag : (l : Layout) (p n : ℕ) → is_large l (put_pointer l p n) ≡ is_large l n
unfolding is_large
pointer-flag Modern p n = rw (pointer_keeps Modern modern_flags p n (omega arith) (omega arith))
pointer-flag (Legacy big sources) p n = rw (pointer_keeps (Legacy big sources) legacy_flags p n (omega arith) (omega arith))

-- one of 32 bits is read back, in either layout
pub pointer_back : (l : Layout) (p n : ℕ) → p < 2 ^ 32 → pointer l (put_pointer l p n) ≡ p
unfolding pointer put_pointer
pointer_back Modern p n h =
    rw (
      value-put modern_pointer_high (p / 2 ^ 24) (with_value modern_pointer_low p n),
      value_kept modern_pointer_high modern_pointer_low (p / 2 ^ 24) (with_value modern_pointer_low p n) (omega arith),
      value-put modern_pointer_low p n,
    )
    (omega arith)
pointer_back (Legacy big sources) p n h =
    rw (
      value-put legacy_info (p / 2 ^ 16) (with_value legacy_offset (p % 2 ^ 16) n),
      value_kept legacy_info legacy_pointer_low (p / 2 ^ 16) (with_value legacy_offset (p % 2 ^ 16) n) (omega arith),
      field_part n 0 25 (p % 2 ^ 16) 16 (omega arith),
    )
    (omega arith)

pub pointer-lt : (l : Layout) (p n : ℕ) → n < 256 ^ (record_row l).width → put_pointer l p n < 256 ^ (record_row l).width
unfolding put_pointer
pointer-lt Modern p n h = with_lt (with_value modern_pointer_low p n) 46 8 (p / 2 ^ 24) 96 (omega arith)
    (with_lt n 0 24 p 96 (omega arith) h)
pointer-lt (Legacy big sources) p n h =
    with_lt (with_value legacy_offset (p % 2 ^ 16) n) 64 25 (p / 2 ^ 16) 128 (omega arith) (with_lt n 0 25 (p % 2 ^ 16) 128 (omega arith) h)
