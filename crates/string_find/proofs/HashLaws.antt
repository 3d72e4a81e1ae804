-- Units hashed one by one, where they stand: what is left behind each gives the hash of all.
use mathlib.Core.Path.{◌≡◌}
use mathlib.Core.Bool.{Bool, true, false}
use mathlib.Core.List.{List}
use Prim.Native.Nat.{ℕ, suc, ◌+◌, ◌-◌, ◌*◌, ◌≤◌, ◌<◌}
use native.Mathlib.Omega.{arith}
use Rattle.format.specs.Hash.{hash_step, hash_from, hash_of}
use Rattle.image.specs.Strings.{unit_size}
use Rattle.string_walk.specs.Units.{unit_at}
use Rattle.string_find.specs.Find.{units_at}

module _ (s : List ℕ) (start : ℕ) (wide : Bool) (n : ℕ) where
  pub hash_start : hash_from 0 (units_at s start wide 0 (n - 0)) ≡ hash_of (units_at s start wide 0 n)
  unfolding hash_of
  hash_start = let k : n - 0 ≡ n = omega arith in rw k

  module _ (i h x : ℕ) where
    pub hash_next : (g u : ℕ) → i < n → u ≡ unit_at s start wide i → g ≡ hash_step h u
        → hash_from h (units_at s start wide i (n - i)) ≡ x
        → hash_from g (units_at s start wide (i + 1) (n - (i + 1))) ≡ x
    unfolding hash_from units_at
    hash_next g u l e f r =
        let k : n - i ≡ suc (n - (i + 1)) = omega arith in
        let j : suc i ≡ i + 1 = omega arith in
        rw (f, e) (rw (k, j) at r)

    pub hash_end : n ≤ i → hash_from h (units_at s start wide i (n - i)) ≡ x → h ≡ x
    unfolding hash_from units_at
    hash_end l r = let k : n - i ≡ 0 = omega arith in rw k at r

-- room for unit i of n
pub room_unit : (w : Bool) (start n i m : ℕ) → i < n → start + n * unit_size w ≤ m → start + i * unit_size w + unit_size w ≤ m
room_unit true start n i m h r = omega arith
room_unit false start n i m h r = omega arith
