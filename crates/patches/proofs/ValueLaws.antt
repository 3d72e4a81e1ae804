-- Values as strings: what may stand in an image, the strings with the values that they get, and the hash of a value.
use mathlib.Core.Path.{◌≡◌, refl}
use mathlib.Core.Bool.{Bool, true, false}
use mathlib.Core.Logic.{inl, inr}
use mathlib.Core.Option.{some}
use mathlib.Core.List.{List, [], ◌∷◌}
use Prim.Native.Nat.{ℕ, zero, suc, ◌/◌, ◌^◌, ◌<◌}
use native.Mathlib.Omega.{arith}
use Rattle.bits.specs.Choice.{pick}
use Rattle.bits.specs.Bytes.{bytes_of, ascii}
use Rattle.bits.specs.Word32.{xor_n}
pub use Rattle.bits.proofs.AsciiLaws.{ascii_below}
use Rattle.bits.proofs.ListLaws.{AllBelow, below_nil, below_append, below_bytes_of}
use Rattle.format.specs.declared.Layout.{Layout}
use Rattle.format.specs.Hash.{mixed, hash_step, hash_from, hash_of}
use Rattle.image.specs.Sections.{strings_in}
use Rattle.image.specs.Admitted.{Admitted}
use Rattle.edits.proofs.RebuildLaws.{Valid}
use Rattle.edits.proofs.StringLaws.{old_valid}
use Rattle.utf.specs.Utf8.{utf16, unit_bytes}
use Rattle.string_edits.specs.Values.{Values}
use Rattle.string_edits.proofs.TurnLaws.{some_or_none}
use Rattle.string_packing.specs.Strings.{as_string, string_with}
use Rattle.string_packing.proofs.ShapeLaws.{length_units}

-- ---- a value

units_below : (us : List ℕ) → AllBelow 256 (unit_bytes us)
unfolding unit_bytes
units_below [] = below_nil 256 (omega arith)
units_below (u ∷ us) = below_append 256 (omega arith) (bytes_of 2 u) (unit_bytes us) (below_bytes_of 2 u) (units_below us)

-- a value may stand in an image
value_valid : (value : List ℕ) → AllBelow 256 value → Valid (as_string value)
unfolding as_string
value_valid value b = go (ascii value) refl
  where
    go : (r : Bool) → ascii value ≡ r
        → Valid (pick r (record { wide = false; bytes = value }) (record { wide = true; bytes = unit_bytes (utf16 value) }))
    go true t = record { whole = omega arith; bytes = b; narrow = λ w. ascii_below value t }
    go false t = record {
      whole = omega (arith, length_units (utf16 value));
      bytes = units_below (utf16 value);
      narrow = λ w. absurd (let z : ◌≡◌ {A = ℕ} 0 1 = cc in omega arith);
    }

-- ---- the strings with the values that they get

pub with_valid : (l : Layout) (s : List ℕ) (v : Values) → Admitted l s
    → ((i : ℕ) → i < strings_in s → (value : List ℕ) → v i ≡ some value → AllBelow 256 value)
    → (i : ℕ) → i < strings_in s → Valid (string_with l s v i)
unfolding string_with
with_valid l s v ad bytes i h = elim (some_or_none (v i)) [
  | inl q ↦ rw q (old_valid l s ad i h)
  | inr (value, q) ↦ rw q (value_valid value (bytes i h value q))
]

-- ---- the hash of units is a word

xor_lt : (k a b : ℕ) → xor_n k a b < 2 ^ k
unfolding xor_n
xor_lt zero a b = omega arith
xor_lt (suc k) a b = omega (arith, xor_lt k (a / 2) (b / 2))

hash_from_lem : (us : List ℕ) (h : ℕ) → h < 2 ^ 32 → hash_from h us < 2 ^ 32
unfolding hash_from hash_step mixed
hash_from_lem [] h k = k
hash_from_lem (u ∷ us) h k = hash_from_lem us _ (xor_lt 32 _ _)

pub hash_lt : (us : List ℕ) → hash_of us < 2 ^ 32
unfolding hash_of
hash_lt us = hash_from_lem us 0 (omega arith)
