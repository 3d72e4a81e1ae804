-- A pass over all numbers below a bound: one law for each place of a loop that stops at the first that fails a test, and two passes in one.
use Rattle.std.proofs.Common.{◌≡◌, ℕ, zero, suc, ◌+◌, ◌<◌, Bool, true, false, not, sym, refl, ◌∙◌, arith}
use borrow.Author.Tests.{not-true, not-false}
use Rattle.bits.specs.Choice.{both, implies, all_below}
use Rattle.bits.proofs.TestLaws.{all_fails, all_next}

module _ (p : ℕ → Bool) where
  pub pass_none : all_below 0 p ≡ true
  unfolding all_below
  pass_none = refl

  pub pass_more : (i : ℕ) → p i ≡ true → all_below i p ≡ true → all_below (i + 1) p ≡ true
  pass_more i t h = rw (all_next p i, t, h)

  -- after `if !test(i) { return false; }`
  pub pass_next : (i : ℕ) (r : Bool) → r ≡ p i → not r ≡ false → all_below i p ≡ true → all_below (i + 1) p ≡ true
  pass_next i r e h a = pass_more i (sym e ∙ not-false r h) a

  -- in that branch
  pub pass_stop : (n i : ℕ) (r : Bool) → i < n → r ≡ p i → not r ≡ true → false ≡ all_below n p
  pass_stop n i r k e h = sym (all_fails p n i k (sym e ∙ not-true r h))

  pub pass_end : (n i : ℕ) → i ≡ n → all_below i p ≡ true → true ≡ all_below n p
  pass_end n i e h = rw (← e, h)

-- ---- two tests in one pass

swap : (a b c d : Bool) → both (both a b) (both c d) ≡ both (both a c) (both b d)
swap true true c d = refl
swap true false true d = refl
swap true false false d = refl
swap false b c d = refl

pub all_both : (p q : ℕ → Bool) (n : ℕ) → all_below n (λ i. both (p i) (q i)) ≡ both (all_below n p) (all_below n q)
unfolding all_below
all_both p q zero = refl
all_both p q (suc n) = rw (all_both p q n) (swap (p n) (q n) (all_below n p) (all_below n q))

-- tests that agree below the bound
pub all_same : (p q : ℕ → Bool) (n : ℕ) → ((i : ℕ) → i < n → p i ≡ q i) → all_below n p ≡ all_below n q
unfolding all_below
all_same p q zero h = refl
all_same p q (suc n) h = rw (h n (omega arith), all_same p q n (λ i k. h i (omega arith)))

-- ---- two passes, one within the other

all_true : (n : ℕ) → all_below n (λ i. true) ≡ true
unfolding all_below
all_true zero = refl
all_true (suc n) = all_true n

pub all_swap : (p : ℕ → ℕ → Bool) (m n : ℕ)
    → all_below n (λ j. all_below m (λ i. p i j)) ≡ all_below m (λ i. all_below n (p i))
unfolding all_below
all_swap p m zero = sym (all_true m)
all_swap p m (suc n) = rw (all_swap p m n) (sym (all_both (λ i. p i n) (λ i. all_below n (p i)) m))

-- a pass that is only made where a test holds
pub imp_all : (b : Bool) (p : ℕ → Bool) (n : ℕ) → implies b (all_below n p) ≡ all_below n (λ i. implies b (p i))
imp_all true p n = refl
imp_all false p n = sym (all_true n)
