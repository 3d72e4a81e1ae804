-- The lowest overlapping id.
use mathlib.Core.Path.{◌≡◌, refl}
use mathlib.Core.Bool.{Bool, true, false}
use mathlib.Core.Logic.{inl, inr}
use mathlib.Core.List.{List}
use Prim.Native.Nat.{ℕ, zero, suc, ◌+◌, ◌≤◌, ◌<◌}
use native.Mathlib.Omega.{arith}
use Rattle.bits.specs.Choice.{pick, all_below}
use Rattle.bits.proofs.TestLaws.{below_or, all_at, all_of}
use Rattle.format.specs.declared.Layout.{Layout}
use Rattle.image.specs.Sections.{strings_in}
use Rattle.string_overlap.specs.Overlap.{is_apart, is_alone}
use Rattle.string_reasons.specs.Reasons.{overlap_from, lowest_overlap}

-- no two truths
pub false-true : (b : Bool) → b ≡ false → b ≡ true → ⊥
false-true b e f = let z : ◌≡◌ {A = ℕ} 0 1 = cc in omega arith

module _ (l : Layout) (s : List ℕ) (id : ℕ) where
  -- r is the lowest of the n ids from i on that is not apart, or behind them
  pub record LowestFrom (i n r : ℕ) : Type 0 where
    pub from : i ≤ r
    pub most : r ≤ i + n
    pub apart : (k : ℕ) → i ≤ k → k < r → is_apart l s id k ≡ true
    pub meets : r < i + n → is_apart l s id r ≡ false

  lowest_from : (n i : ℕ) → LowestFrom i n (overlap_from l s id i n)
  unfolding overlap_from
  lowest_from zero i = record {
    from = omega arith;
    most = omega arith;
    apart = λ k h g. absurd (omega arith);
    meets = λ h. absurd (omega arith);
  }
  lowest_from (suc n) i = go (is_apart l s id i) refl (lowest_from n (suc i))
    where
      go : (b : Bool) → is_apart l s id i ≡ b → LowestFrom (suc i) n (overlap_from l s id (suc i) n)
          → LowestFrom i (suc n) (pick b (overlap_from l s id (suc i) n) i)
      go true e x = record {
        from = omega (arith, x.from);
        most = omega (arith, x.most);
        apart = λ k h g. elim (below_or i k) [ inl m ↦ x.apart k m g | inr m ↦ let q : k ≡ i = omega arith in rw q e ];
        meets = λ h. x.meets (omega arith);
      }
      go false e x = record {
        from = omega arith;
        most = omega arith;
        apart = λ k h g. absurd (omega arith);
        meets = λ h. e;
      }

  lowest : LowestFrom 0 (strings_in s) (lowest_overlap l s id)
  unfolding lowest_overlap
  lowest = lowest_from (strings_in s) 0

  -- the first id that a pass meets
  pub lowest_is : (i : ℕ) → all_below i (is_apart l s id) ≡ true → i < strings_in s → is_apart l s id i ≡ false
      → i ≡ lowest_overlap l s id
  lowest_is i a h e =
      elim (below_or i (lowest_overlap l s id)) [
        | inl g ↦ absurd (false-true (is_apart l s id i) e (lowest.apart i (omega arith) g))
        | inr g ↦ elim (below_or (lowest_overlap l s id) i) [
          | inl k ↦ absurd (false-true (is_apart l s id (lowest_overlap l s id)) (lowest.meets (omega arith))
              (all_at (is_apart l s id) i (lowest_overlap l s id) a k))
          | inr k ↦ omega arith
        ]
      ]

  -- it meets none
  pub lowest_none : all_below (strings_in s) (is_apart l s id) ≡ true → lowest_overlap l s id ≡ strings_in s
  lowest_none a =
      elim (below_or (lowest_overlap l s id) (strings_in s)) [
        | inl h ↦ absurd (false-true (is_apart l s id (lowest_overlap l s id)) (lowest.meets (omega arith))
            (all_at (is_apart l s id) (strings_in s) (lowest_overlap l s id) a h))
        | inr h ↦ omega (arith, lowest.most)
      ]

  -- the string has its bytes for itself exactly where there is none
  pub alone_none : is_alone l s id ≡ true → lowest_overlap l s id ≡ strings_in s
  unfolding is_alone
  alone_none a = lowest_none a

  pub none_alone : strings_in s ≤ lowest_overlap l s id → is_alone l s id ≡ true
  unfolding is_alone
  none_alone h = all_of (is_apart l s id) (strings_in s) (λ k g. lowest.apart k (omega arith) (omega arith))

  pub some_shared : lowest_overlap l s id < strings_in s → is_alone l s id ≡ false
  some_shared h = go (is_alone l s id) refl
    where
      go : (b : Bool) → is_alone l s id ≡ b → b ≡ false
      go true e = absurd (omega (arith, alone_none e))
      go false e = refl

  pub shared_some : is_alone l s id ≡ false → (lowest_overlap l s id < strings_in s) × (is_apart l s id (lowest_overlap l s id) ≡ false)
      × ((k : ℕ) → k < lowest_overlap l s id → is_apart l s id k ≡ true)
  shared_some f =
      elim (below_or (lowest_overlap l s id) (strings_in s)) [
        | inl h ↦ (h, lowest.meets (omega arith), λ k g. lowest.apart k (omega arith) g)
        | inr h ↦ absurd (false-true (is_alone l s id) f (none_alone h))
      ]
