-- The units that code reads one by one are those of the string.
use mathlib.Core.Path.{◌≡◌, refl, ◌∙◌}
use mathlib.Core.Bool.{Bool, true, false}
use mathlib.Core.List.{List, [], ◌∷◌}
use Prim.Native.Nat.{ℕ, zero, suc, ◌+◌, ◌*◌, ◌/◌, ◌<◌}
use native.Mathlib.Omega.{arith}
use lib.ListN.{length, get_or}
use Rattle.bits.specs.Bytes.{bytes_at, number}
use Rattle.bits.proofs.ByteLaws.{length-bytes_at, get_d_bytes_at}
use Rattle.image.specs.Strings.{unit_size, Str, pairs_of, units_of}
use Rattle.string_walk.specs.Units.{unit_at}

-- ---- the sums that code forms

pub wide_unit : (s : List ℕ) (start i at : ℕ) → at ≡ start + i * 2
    → get_or s at 0 + get_or s (at + 1) 0 * 256 ≡ unit_at s start true i
unfolding unit_at number bytes_at
wide_unit s start i at e =
    let b : at + 1 ≡ suc (start + i * 2) = omega arith in
    rw (b, e) (omega arith)

pub narrow_unit : (s : List ℕ) (start i : ℕ) → get_or s (start + i) 0 ≡ unit_at s start false i
unfolding unit_at number bytes_at
narrow_unit s start i =
    let b : start + i * 1 ≡ start + i = omega arith in
    rw b (omega arith)

-- ---- pairs of bytes

pub length_pairs : (bs : List ℕ) → length (pairs_of bs) ≡ length bs / 2
unfolding pairs_of
length_pairs [] = refl
length_pairs (a ∷ []) = refl
length_pairs (a ∷ b ∷ bs) = omega (arith, length_pairs bs)

pub pair_at : (bs : List ℕ) (i : ℕ) → i * 2 + 1 < length bs
    → get_or (pairs_of bs) i 0 ≡ get_or bs (i * 2) 0 + get_or bs (i * 2 + 1) 0 * 256
unfolding pairs_of
pair_at [] i h = absurd (omega arith)
pair_at (a ∷ []) i h = absurd (omega arith)
pair_at (a ∷ b ∷ bs) zero h = refl
pair_at (a ∷ b ∷ bs) (suc i) h =
    let e : suc i * 2 ≡ suc (suc (i * 2)) = omega arith in
    let f : suc i * 2 + 1 ≡ suc (suc (i * 2 + 1)) = omega arith in
    rw (f, e) (pair_at bs i (omega arith))

-- ---- a string of n units, whose bytes start at a place

module _ (s : List ℕ) (start n : ℕ) where
  abbrev string : Bool → Str
  string wide = record { wide = wide; bytes = bytes_at s start (n * unit_size wide) }

  pub units_count : (wide : Bool) → length (units_of (string wide)) ≡ n
  unfolding units_of
  units_count true = length_pairs (bytes_at s start (n * 2)) ∙ rw (length-bytes_at s start (n * 2)) (omega arith)
  units_count false = length-bytes_at s start (n * 1) ∙ omega arith

  pub units_at_lem : (wide : Bool) (i : ℕ) → i < n → get_or (units_of (string wide)) i 0 ≡ unit_at s start wide i
  unfolding units_of
  units_at_lem true i h =
      let l : length (bytes_at s start (n * 2)) ≡ n * 2 = length-bytes_at s start (n * 2) in
      let e : start + (i * 2 + 1) ≡ start + i * 2 + 1 = omega arith in
      pair_at (bytes_at s start (n * 2)) i (omega arith)
      ∙ rw (get_d_bytes_at s (n * 2) start (i * 2) (omega arith), get_d_bytes_at s (n * 2) start (i * 2 + 1) (omega arith), e)
      (wide_unit s start i (start + i * 2) refl)
  units_at_lem false i h = get_d_bytes_at s (n * 1) start i (omega arith) ∙ narrow_unit s start i
