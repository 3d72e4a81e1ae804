-- Small string entries: their fields are read back, and they fit a word.
use mathlib.Core.Path.{◌≡◌, refl, ◌∙◌}
use mathlib.Core.Bool.{Bool, true, false}
use Prim.Native.Nat.{ℕ, ◌%◌, ◌^◌, ◌<◌}
use native.Mathlib.Nat.{mod-eq_of_lt}
use native.Mathlib.Omega.{arith}
use borrow.Author.Tests.{leb-false}
use lib.Dec.{leb}
use Rattle.bits.specs.Choice.{pick}
use Rattle.bits.proofs.TestLaws.{either_0, either_1}
use Rattle.bits.proofs.FieldLaws.{with_lt}
use Rattle.format.specs.Table.{if_set, entry_wide, entry_offset, entry_length}
use Rattle.format.specs.Record.{value_of, with_value}
use Rattle.format.specs.Entry.{Place, bit, entry, far, long, full, is_over, small_word}
use Rattle.format.proofs.RecordLaws.{value_kept, value-put}

-- a fact as the code counts it
pub set-bit : (b : Bool) → if_set b 1 ≡ bit b
set-bit true = refl
set-bit false = refl

bit_mod : (b : Bool) → bit b % 2 ≡ bit b
bit_mod true = refl
bit_mod false = refl

module _ (wide : Bool) (offset len : ℕ) where
  pub entry_length_lem : len < 256 → value_of entry_length (entry wide offset len) ≡ len
  unfolding entry
  entry_length_lem h = value-put entry_length len (with_value entry_offset offset (with_value entry_wide (bit wide) 0)) ∙ mod-eq_of_lt h

  pub entry_offset_lem : offset < far → value_of entry_offset (entry wide offset len) ≡ offset
  unfolding entry
  entry_offset_lem h =
      value_kept entry_length entry_offset len (with_value entry_offset offset (with_value entry_wide (bit wide) 0)) (omega arith)
      ∙ value-put entry_offset offset (with_value entry_wide (bit wide) 0) ∙ mod-eq_of_lt h

  pub entry_wide_lem : value_of entry_wide (entry wide offset len) ≡ bit wide
  unfolding entry
  entry_wide_lem =
      value_kept entry_length entry_wide len (with_value entry_offset offset (with_value entry_wide (bit wide) 0)) (omega arith)
      ∙ value_kept entry_offset entry_wide offset (with_value entry_wide (bit wide) 0) (omega arith)
      ∙ value-put entry_wide (bit wide) 0 ∙ bit_mod wide

  entry_lt : entry wide offset len < 2 ^ 32
  unfolding entry
  entry_lt =
      with_lt _ 24 8 len 32 (omega arith) (with_lt _ 1 23 offset 32 (omega arith) (with_lt 0 0 1 (bit wide) 32 (omega arith) (omega arith)))

-- an entry made field by field
pub record Composed (wide : Bool) (offset len b x y z : ℕ) : Type 0 where
  pub counted : b ≡ if_set wide 1
  pub kind : x ≡ with_value entry_wide b 0
  pub place : y ≡ with_value entry_offset offset x
  pub count : z ≡ with_value entry_length len y

pub entry-is : (wide : Bool) (offset len b x y z : ℕ) → Composed wide offset len b x y z → z ≡ entry wide offset len
unfolding entry
entry-is wide offset len b x y z f = rw (f.count, f.place, f.kind, f.counted, set-bit wide)

pub small-lt : (k : ℕ) (p : Place) → small_word k p < 2 ^ 32
unfolding small_word
small-lt k p = go (is_over p)
  where
    go : (b : Bool) → pick b (entry p.wide k full) (entry p.wide p.at p.count) < 2 ^ 32
    go true = entry_lt p.wide k full
    go false = entry_lt p.wide p.at p.count

-- what does not go to the overflow table fits a small entry
pub not_over : (p : Place) → is_over p ≡ false → (p.at < far) × (p.count < long)
not_over p o = (
  leb-false far p.at (either_0 (leb far p.at) (leb long p.count) o),
  leb-false long p.count (either_1 (leb far p.at) (leb long p.count) o),
)
