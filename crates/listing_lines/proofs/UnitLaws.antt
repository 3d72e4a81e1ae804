-- The hex digits of units, one behind the other.
use Rattle.std.specs.Prelude.{None, Option, Some}
use mathlib.Core.Path.{◌≡◌, refl, ap}
use mathlib.Core.Bool.{Bool, true, false}
use mathlib.Core.List.{List, [], ◌∷◌, ◌++◌}
use Prim.Native.Nat.{ℕ, zero, suc, ◌+◌, ◌-◌, ◌*◌, ◌≤◌, ◌<◌}
use native.Mathlib.Omega.{arith}
use lib.ListN.{length, length-append}
use lib.Seq.{sets}
use Rattle.bits.proofs.WriteLaws.{sets_append}
use Rattle.image.specs.Strings.{unit_size}
use Rattle.string_walk.specs.Units.{unit_at}
use Rattle.text.specs.Text.{hex4, hexes, hex8}
use Rattle.listing_lines.specs.Lines.{slot_word, gap, units_shown}

pub length_hex : (u : ℕ) → length (hex4 u) ≡ 4
unfolding hex4
length_hex u = refl

pub length-hexes : (us : List ℕ) → length (hexes us) ≡ length us * 4
unfolding hexes
length-hexes [] = refl
length-hexes (u ∷ us) =
    let e : length (hex4 u ++ hexes us) ≡ length (hex4 u) + length (hexes us) = length-append (hex4 u) (hexes us) in
    omega (arith, e, length_hex u, length-hexes us)

pub length_units : (s : List ℕ) (start : ℕ) (wide : Bool) (n i : ℕ) → length (units_shown s start wide i n) ≡ n
unfolding units_shown
length_units s start wide zero i = refl
length_units s start wide (suc n) i = ap suc (length_units s start wide n (suc i))

-- ---- the loop: unit i of n is written at its place, and the rest is left to write; `x` is what the loop is to give

-- a turn of it: unit i is u, and was written
pub record UnitPut (s : List ℕ) (start : ℕ) (wide : Bool) (first n : ℕ) (out out' : List ℕ) (at i u : ℕ) : Type 0 where
  pub left : i < n
  pub unit : u ≡ unit_at s start wide (first + i)
  pub wrote : out' ≡ sets out (at + i * 4) (hex4 u)

module _ (s : List ℕ) (start : ℕ) (wide : Bool) (first n : ℕ) where
  -- unit i lies in the image
  pub unit_room : (i len : ℕ) → i < n → start + (first + n) * unit_size wide ≤ len
      → start + (first + i) * unit_size wide + unit_size wide ≤ len
  unit_room i len h g = go wide g
    where
      go : (w : Bool) → start + (first + n) * unit_size w ≤ len → start + (first + i) * unit_size w + unit_size w ≤ len
      go true k = omega arith
      go false k = omega arith

  pub unit_below : (i len : ℕ) → i < n → start + (first + n) * unit_size wide ≤ len → first + i < len
  unit_below i len h g = go wide g
    where
      go : (w : Bool) → start + (first + n) * unit_size w ≤ len → first + i < len
      go true k = omega arith
      go false k = omega arith

  pub put_start : (out : List ℕ) (at : ℕ)
      → sets out (at + 0 * 4) (hexes (units_shown s start wide (first + 0) (n - 0))) ≡ sets out at
      (hexes (units_shown s start wide first n))
  put_start out at =
      let a : at + 0 * 4 ≡ at = omega arith in
      let b : first + 0 ≡ first = omega arith in
      let c : n - 0 ≡ n = omega arith in
      rw (a, b, c)

  pub put_turn : (out out' x : List ℕ) (at i u : ℕ) → UnitPut s start wide first n out out' at i u
      → sets out (at + i * 4) (hexes (units_shown s start wide (first + i) (n - i))) ≡ x
      → sets out' (at + (i + 1) * 4) (hexes (units_shown s start wide (first + (i + 1)) (n - (i + 1)))) ≡ x
  unfolding hexes units_shown
  put_turn out out' x at i u z g =
      let rest : List ℕ = hexes (units_shown s start wide (first + (i + 1)) (n - (i + 1))) in
      let m : n - i ≡ suc (n - (i + 1)) = omega (arith, z.left) in
      let j : suc (first + i) ≡ first + (i + 1) = omega arith in
      let k : hexes (units_shown s start wide (first + i) (n - i)) ≡ hex4 u ++ rest = rw (m, z.unit, ← j) in
      let p : at + (i + 1) * 4 ≡ at + i * 4 + length (hex4 u) = omega (arith, length_hex u) in
      rw (z.wrote, p, ← sets_append (hex4 u) rest out (at + i * 4), ← k) g

  pub put-end : (out : List ℕ) (at i : ℕ) → n ≤ i
      → sets out (at + i * 4) (hexes (units_shown s start wide (first + i) (n - i))) ≡ out
  unfolding hexes units_shown
  put-end out at i h = let e : n - i ≡ 0 = omega arith in rw e

-- ---- the end of a line

pub gap-none : (n : ℕ) → n ≡ 0 → gap n ≡ 0x2D ∷ 32 ∷ []
gap-none zero e = refl
gap-none (suc n) e = absurd (omega arith)

pub gap-some : (n : ℕ) → (n ≡ 0 → ⊥) → gap n ≡ 32 ∷ []
gap-some zero e = absurd (e refl)
gap-some (suc n) e = refl

pub length_slot : (slot : Option ℕ) → length (slot_word slot) ≤ 8
unfolding hex4 hex8
length_slot (Some h) = omega arith
length_slot None = omega arith
