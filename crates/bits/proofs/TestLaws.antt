-- Tests and what they say, both ways.
use Rattle.std.proofs.Common.{◌≡◌, ℕ, zero, suc, ◌+◌, ◌-◌, ◌*◌, ◌<◌, ◌≤◌, Bool, true, false, eqb, ltb, ◌⊎◌, sym, refl, ◌∙◌, inl}
use Rattle.std.proofs.Common.{inr, not-suc-le-zero, add-zero, add_assoc, add-suc, suc-mul, zero-mul, add-one, arith, ltb-false}
use Rattle.std.proofs.Common.{ltb-true, eqb-true}
use borrow.Author.Tests.{eqb-false}
use Rattle.bits.specs.Choice.{pick, both, either, implies, all_below, sum_below}

pub both_0 : (a b : Bool) → both a b ≡ true → a ≡ true
both_0 true b h = refl
both_0 false b h = h

pub both_1 : (a b : Bool) → both a b ≡ true → b ≡ true
both_1 true b h = h
both_1 false b h = let z : ◌≡◌ {A = ℕ} 0 1 = cc in absurd (omega arith)

pub both_of : (a b : Bool) → a ≡ true → b ≡ true → both a b ≡ true
both_of a b h k = rw (h, k)

pub both-none : (a : Bool) → both a false ≡ false
both-none true = refl
both-none false = refl

pub both_false : (a b : Bool) → both a b ≡ false → (a ≡ false) ⊎ (b ≡ false)
both_false true b h = inr h
both_false false b h = inl refl

pub either-not : (a b : Bool) → either a b ≡ false → (a ≡ false) × (b ≡ false)
either-not true b h = let z : ◌≡◌ {A = ℕ} 0 1 = cc in absurd (omega arith)
either-not false b h = (refl, h)

pub either_0 : (a b : Bool) → either a b ≡ false → a ≡ false
either_0 a b h = (either-not a b h).0

pub either_1 : (a b : Bool) → either a b ≡ false → b ≡ false
either_1 a b h = (either-not a b h).1

-- one of two tests that holds settles it, whichever it is
pub either_or : (a b : Bool) → either a b ≡ true → (a ≡ true) ⊎ (b ≡ true)
either_or true b h = inl refl
either_or false b h = inr h

pub either_true : (a : Bool) → either a true ≡ true
either_true true = refl
either_true false = refl

pub imp_use : (a b : Bool) → implies a b ≡ true → a ≡ true → b ≡ true
imp_use true b h t = h
imp_use false b h t = let z : ◌≡◌ {A = ℕ} 0 1 = cc in absurd (omega arith)

pub imp_of : (a b : Bool) → (a ≡ true → b ≡ true) → implies a b ≡ true
imp_of true b h = h refl
imp_of false b h = refl

pub imp_false : (a b : Bool) → implies a b ≡ false → (a ≡ true) × (b ≡ false)
imp_false true b h = (refl, h)
imp_false false b h = let z : ◌≡◌ {A = ℕ} 0 1 = cc in absurd (omega arith)

-- a test decides
pub which : (b : Bool) → (b ≡ true) ⊎ (b ≡ false)
which true = inl refl
which false = inr refl

pub below_or : (a b : ℕ) → (a < b) ⊎ (b ≤ a)
below_or a b = elim (which (ltb a b)) [ inl t ↦ inl (ltb-true a b t) | inr f ↦ inr (ltb-false a b f) ]

-- an answer that goes by a number, 0 being none, is what is found or the refusal
module _ {A : Type 0} (n : ℕ) (found : A) (refusal : ℕ → A) (r : A) (e : pick (eqb n 0) found (refusal n) ≡ r) where
  pub is_found : ((k : ℕ) → refusal k ≡ r → ⊥) → (n ≡ 0) × (found ≡ r)
  is_found none = go (eqb n 0) refl e
    where
      go : (b : Bool) → eqb n 0 ≡ b → pick b found (refusal n) ≡ r → (n ≡ 0) × (found ≡ r)
      go true h q = (eqb-true n 0 h, q)
      go false h q = absurd (none n q)

  pub is-refused : (found ≡ r → ⊥) → (0 < n) × (refusal n ≡ r)
  is-refused none = go (eqb n 0) refl e
    where
      go : (b : Bool) → eqb n 0 ≡ b → pick b found (refusal n) ≡ r → (0 < n) × (refusal n ≡ r)
      go true h q = absurd (none q)
      go false h q = (omega (arith, eqb-false n 0 h), q)

-- a number below suc n is n or below n
pub below : (i n : ℕ) → i < suc n → (i ≡ n) ⊎ (i < n)
below i n h = elim (below_or i n) [ inl t ↦ inr t | inr f ↦ inl (omega arith) ]

-- ---- a test of all numbers below a bound

module _ (p : ℕ → Bool) where
  pub all_at : (n i : ℕ) → all_below n p ≡ true → i < n → p i ≡ true
  unfolding all_below
  all_at zero i t h = absurd (not-suc-le-zero h)
  all_at (suc n) i t h =
      elim (below i n h) [ inl e ↦ rw e (both_0 (p n) (all_below n p) t) | inr l ↦ all_at n i (both_1 (p n) (all_below n p) t) l ]

  pub all_of : (n : ℕ) → ((i : ℕ) → i < n → p i ≡ true) → all_below n p ≡ true
  unfolding all_below
  all_of zero h = refl
  all_of (suc n) h = both_of (p n) (all_below n p) (h n (omega arith)) (all_of n (λ i l. h i (omega arith)))

  pub all_fails : (n i : ℕ) → i < n → p i ≡ false → all_below n p ≡ false
  all_fails n i h f = go (all_below n p) refl
    where
      go : (b : Bool) → all_below n p ≡ b → b ≡ false
      go true e = sym (all_at n i e h) ∙ f
      go false e = refl

  -- a loop that goes up: at its start, and one more
  pub all_none : all_below 0 p ≡ true
  unfolding all_below
  all_none = refl

  pub all_next : (i : ℕ) → all_below (i + 1) p ≡ both (p i) (all_below i p)
  unfolding all_below
  all_next i = rw add-one

  pub all_not : (n : ℕ) → all_below n p ≡ false → (i : ℕ) × (i < n) × (p i ≡ false)
  unfolding all_below
  all_not zero e = let z : ◌≡◌ {A = ℕ} 0 1 = cc in absurd (omega arith)
  all_not (suc n) e =
      elim (both_false (p n) (all_below n p) e) [
        | inl f ↦ (n, omega arith, f)
        | inr f ↦ let r : (i : ℕ) × (i < n) × (p i ≡ false) = all_not n f in (r.0, omega (arith, r.1), r.2)
      ]

-- ---- a sum over all numbers below a bound

pub sum_next : (f : ℕ → ℕ) (n : ℕ) → sum_below (n + 1) f ≡ sum_below n f + f n
unfolding sum_below
sum_next f n = rw add-one

pub sum_split : (f : ℕ → ℕ) (m n : ℕ) → sum_below (m + n) f ≡ sum_below m f + sum_below n (λ j. f (m + j))
unfolding sum_below
sum_split f m zero = rw (add-zero, add-zero)
sum_split f m (suc n) = rw (add-suc, sum_split f m n) (add_assoc (sum_below m f) (sum_below n (λ j. f (m + j))) (f (m + n)))

-- a longer sum is no less
pub sum_le : (f : ℕ → ℕ) (m n : ℕ) → m ≤ n → sum_below m f ≤ sum_below n f
sum_le f m n h =
    let e : n ≡ m + (n - m) = omega arith in
    rw (e, sum_split f m (n - m)) (omega arith)

-- and it holds each of its terms beside the sum before it
pub sum_at : (f : ℕ → ℕ) (i n : ℕ) → i < n → sum_below i f + f i ≤ sum_below n f
unfolding sum_below
sum_at f i n h = sum_le f (suc i) n h

-- a sum of equal terms
pub sum_same : (f : ℕ → ℕ) (c n : ℕ) → ((i : ℕ) → i < n → f i ≡ c) → sum_below n f ≡ n * c
unfolding sum_below
sum_same f c zero h = sym (zero-mul c)
sum_same f c (suc n) h = rw (sum_same f c n (λ i k. h i (omega arith)), h n (omega arith)) (sym (suc-mul n c))
