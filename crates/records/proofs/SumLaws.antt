-- A signed 32-bit delta added to a number, in 64 bits: the sum is exact.
use Rattle.std.specs.Prelude.{None, Some}
use mathlib.Core.Path.{◌≡◌, refl}
use mathlib.Core.Bool.{true, false}
use mathlib.Core.Logic.{inl, inr}
use Prim.Native.Nat.{ℕ, suc, ◌^◌, ◌≤◌, ◌<◌}
use native.Mathlib.Omega.{arith}
use borrow.Author.Tests.{ltb-true, lt-ltb, le-ltb}
use lib.Dec.{T, eqb}
use lib.IntN.{ℤ, pos, negsuc, nat_abs, ◌+ℤ◌}
use lib.Signed.{lt_z, non_neg}
use mir.Syntax.{w32, w64}
use mir.Val.{SFits, to_z, of_z}
use mir.Facts.{to_z-of_z}
use Rattle.bits.proofs.TestLaws.{below_or, which}
use Rattle.format.specs.Table.{legacy_info}
use Rattle.format.specs.Record.{value_of}
use Rattle.records.specs.Sum.{fitting, summed, SumOutside}
use Rattle.records.specs.Sum.SumOutside.{below, past}
use Rattle.records.specs.Records.{info_sum}

-- ---- the sum as the code makes it

pub wider : (delta : ℤ) → SFits w32 delta → SFits w64 delta
wider delta h = record { sfits = omega (arith, h.sfits) }

pub total_fits : (n : ℕ) (delta : ℤ) → n < 2 ^ 41 → SFits w32 delta → SFits w64 (pos n +ℤ delta)
total_fits n (pos m) b h = record { sfits = omega (arith, h.sfits) }
total_fits n (negsuc m) b h =
    elim (below_or n (suc m)) [
      | inl k ↦ rw (lt-ltb n (suc m) k) (record { sfits = omega (arith, h.sfits) })
      | inr k ↦ rw (le-ltb n (suc m) k) (record { sfits = omega arith })
    ]

-- what fits 64 bits with a sign fits them without it
pub unsigned_fits : (total : ℤ) → SFits w64 total → nat_abs total < 2 ^ 64
unsigned_fits (pos n) h = omega (arith, h.sfits)
unsigned_fits (negsuc n) h = omega (arith, h.sfits)

module _ (n : ℕ) (delta : ℤ) (b : n < 2 ^ 41) (h : SFits w32 delta) where
  number_held_lem : to_z w64 n ≡ pos n
  number_held_lem = to_z-of_z {w = w64} {z = pos n} (record { sfits = omega arith })

  delta_held : to_z w64 (of_z w64 (to_z w32 (of_z w32 delta))) ≡ delta
  delta_held = rw (to_z-of_z h) (to_z-of_z (wider delta h))

  pub total_is : to_z w64 n +ℤ to_z w64 (of_z w64 (to_z w32 (of_z w32 delta))) ≡ pos n +ℤ delta
  total_is = rw (number_held_lem, delta_held)

  pub total_held : to_z w64 (of_z w64 (to_z w64 n +ℤ to_z w64 (of_z w64 (to_z w32 (of_z w32 delta))))) ≡ pos n +ℤ delta
  total_held = rw total_is (to_z-of_z (total_fits n delta b h))

-- ---- its ways out

-- "a sum below 0"
pub below_zero : (width : ℕ) (total : ℤ) → lt_z total (pos 0) ≡ true → None ≡ fitting width total
below_zero width (pos n) e = absurd (omega (arith, ltb-true n 0 e))
below_zero width (negsuc n) e = refl

-- "or past their width"
pub past_width : (width : ℕ) (total : ℤ) → 2 ^ width ≤ nat_abs total → None ≡ fitting width total
past_width width (pos n) h = rw (le-ltb n (2 ^ width) h)
past_width width (negsuc n) h = refl

pub within_width : (width : ℕ) (total : ℤ) → lt_z total (pos 0) ≡ false → nat_abs total < 2 ^ width
    → Some (nat_abs total) ≡ fitting width total
within_width width (pos n) e h = rw (lt-ltb n (2 ^ width) h)
within_width width (negsuc n) e h = cc

pub not_negative : (total : ℤ) → lt_z total (pos 0) ≡ false → T (non_neg total)
not_negative (pos n) e = tt
not_negative (negsuc n) e = let z : ◌≡◌ {A = ℕ} 0 1 = cc in absurd (omega arith)

-- ---- a sum that fits is no larger than its place

fitting-lt : (width : ℕ) (total : ℤ) (v : ℕ) → fitting width total ≡ Some v → v < 2 ^ width
fitting-lt width (pos n) v e =
    elim (below_or n (2 ^ width)) [
      | inl k ↦ let s : v ≡ n = cc (rw (lt-ltb n (2 ^ width) k) at e) in omega arith
      | inr k ↦ let z : ◌≡◌ {A = ℕ} 0 1 = cc (rw (le-ltb n (2 ^ width) k) at e) in absurd (omega arith)
    ]
fitting-lt width (negsuc n) v e = let z : ◌≡◌ {A = ℕ} 0 1 = cc in absurd (omega arith)

pub sum_lt : (width : ℕ) (delta : ℤ) (n v : ℕ) → summed width delta n ≡ Some v → v < 2 ^ width
sum_lt width delta n v e = fitting-lt width (pos n +ℤ delta) v e

pub info_lt : (delta : ℤ) (n v : ℕ) → info_sum delta n ≡ Some v → v < 2 ^ legacy_info.width
unfolding info_sum
info_lt delta n v e =
    elim (which (eqb (value_of legacy_info n) 0)) [
      | inl t ↦ let s : v ≡ 0 = cc (rw t at e) in omega arith
      | inr t ↦ sum_lt legacy_info.width delta (value_of legacy_info n) v (rw t at e)
    ]

-- ---- a sum is none exactly where it lies outside

pub beyond_outside : (width : ℕ) (total : ℤ) → fitting width total ≡ None → SumOutside width total
beyond_outside width (pos n) e =
    elim (below_or n (2 ^ width)) [
      | inl k ↦ let z : ◌≡◌ {A = ℕ} 0 1 = cc (rw (lt-ltb n (2 ^ width) k) at e) in absurd (omega arith)
      | inr k ↦ past n k
    ]
beyond_outside width (negsuc n) e = below n

pub outside_beyond : (width : ℕ) (total : ℤ) → SumOutside width total → fitting width total ≡ None
outside_beyond width total (below n) = refl
outside_beyond width total (past n h) = rw (le-ltb n (2 ^ width) h)
