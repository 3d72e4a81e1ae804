-- A string by its value: the lowest id that has the units, or none.
use mathlib.Core.Path.{◌≡◌, refl}
use mathlib.Core.Bool.{Bool, true, false}
use mathlib.Core.Logic.{inl, inr, ◌≢◌}
use mathlib.Core.List.{List}
use Prim.Native.Nat.{ℕ, zero, suc, ◌+◌, ◌≤◌, ◌<◌}
use native.Mathlib.Omega.{arith}
use borrow.Author.Tests.{leb-true, leb-false, eqb-true, eqb-false}
use lib.Dec.{leb, eqb}
use Rattle.bits.specs.Choice.{pick}
use Rattle.bits.proofs.TestLaws.{which}
use Rattle.format.specs.declared.Layout.{Layout}
use Rattle.footer.specs.Footer.{same}
use Rattle.image.specs.Sections.{strings_in}
use Rattle.image.specs.Strings.{string_of, units_of}
use Rattle.string_find.specs.Find.{find_from, find_id}
use Rattle.footer.proofs.SameLaws.{same-is, same_self}

module _ (l : Layout) (s units : List ℕ) where
  abbrev test : ℕ → Bool
  test i = same (units_of (string_of l s i)) units

  -- no id before it has the units
  least_from : (n i j : ℕ) → i ≤ j → j < find_from l s units i n → units_of (string_of l s j) ≢ units
  unfolding find_from
  least_from zero i j h k e = omega arith
  least_from (suc n) i j h k e = go (test i) refl (λ g q. least_from n (suc i) j g q e) k
    where
      go : (b : Bool) → test i ≡ b → (suc i ≤ j → j < find_from l s units (suc i) n → ⊥)
          → j < pick b i (find_from l s units (suc i) n) → ⊥
      go true t r k = omega arith
      go false t r k = elim (which (eqb i j)) [
        | inl q ↦ let z : test i ≡ true = rw (eqb-true i j q, e) (same_self units) in let y : ◌≡◌ {A = ℕ} 0 1 = cc in omega arith
        | inr q ↦ r (omega (arith, eqb-false i j q)) k
      ]

  -- where there is one, it has them
  found_from : (n i : ℕ) → find_from l s units i n < i + n → units_of (string_of l s (find_from l s units i n)) ≡ units
  unfolding find_from
  found_from zero i h = absurd (omega arith)
  found_from (suc n) i h = go (test i) refl (λ g. found_from n (suc i) g) h
    where
      go : (b : Bool) → test i ≡ b
          → (find_from l s units (suc i) n < suc i + n → units_of (string_of l s (find_from l s units (suc i) n)) ≡ units)
          → pick b i (find_from l s units (suc i) n) < i + suc n
          → units_of (string_of l s (pick b i (find_from l s units (suc i) n))) ≡ units
      go true t r h = same-is (units_of (string_of l s i)) units t
      go false t r h = r (omega arith)

  pub find_least : (j : ℕ) → j < find_id l s units → units_of (string_of l s j) ≢ units
  unfolding find_id
  find_least j h = least_from (strings_in s) 0 j (omega arith) h

  pub find_found : find_id l s units < strings_in s → units_of (string_of l s (find_id l s units)) ≡ units
  unfolding find_id
  find_found h = found_from (strings_in s) 0 (omega arith)

  -- where none has the units, none is found
  pub find_none : ((i : ℕ) → i < strings_in s → units_of (string_of l s i) ≢ units) → strings_in s ≤ find_id l s units
  find_none h = elim (which (leb (strings_in s) (find_id l s units))) [
    | inl t ↦ leb-true (strings_in s) (find_id l s units) t
    | inr f ↦ let k = leb-false (strings_in s) (find_id l s units) f in absurd (h (find_id l s units) k (find_found k))
  ]
