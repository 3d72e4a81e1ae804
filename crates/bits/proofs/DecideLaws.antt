-- A test that decides: what holds of the numbers where it is true, what is wrong with them where it is false, and back from each.
-- A test that is put together of others decides what they decide.
use Rattle.std.proofs.Common.{◌≡◌, ℕ, ◌<◌, ◌≤◌, Bool, true, false, not, eqb, leb, ◌≢◌, ◌⊎◌, refl, inl, inr, eq-eqb, ne_eqb}
use Rattle.std.proofs.Common.{eqb-true, le-leb, leb-false, leb-true}
use borrow.Author.Tests.{lt-leb, eqb-false, not-true, not-false}
use Rattle.bits.specs.Choice.{both, implies, all_below}
use Rattle.bits.proofs.TestLaws.{both_0, both_1, both_of, both_false, imp_use, imp_of, imp_false, all_at, all_of}
use Rattle.bits.proofs.TestLaws.{all_fails, all_not}

pub record Decides (b : Bool) (P F : Type 0) : Type 0 where
  pub holds : b ≡ true → P
  pub passed : P → b ≡ true
  pub wrong : b ≡ false → F
  pub failed : F → b ≡ false

-- ---- tests of numbers, and a test as it stands

pub leb_decides : (m n : ℕ) → Decides (leb m n) (m ≤ n) (n < m)
leb_decides m n = record { holds = leb-true m n; passed = le-leb m n; wrong = leb-false m n; failed = lt-leb m n }

pub eqb_decides : (m n : ℕ) → Decides (eqb m n) (m ≡ n) (m ≢ n)
eqb_decides m n = record { holds = eqb-true m n; passed = eq-eqb m n; wrong = eqb-false m n; failed = ne_eqb m n }

pub itself_decides : (b : Bool) → Decides b (b ≡ true) (b ≡ false)
itself_decides b = record { holds = λ t. t; passed = λ t. t; wrong = λ f. f; failed = λ f. f }

-- ---- tests of tests

pub not_decides : {b : Bool} {P F : Type 0} → Decides b P F → Decides (not b) F P
not_decides {b} d =
    record {
      holds = λ t. d.wrong (not-true b t);
      passed = λ x. rw (d.failed x);
      wrong = λ f. d.holds (not-false b f);
      failed = λ x. rw (d.passed x);
    }

pub both_decides : {a b : Bool} {P F Q G : Type 0} → Decides a P F → Decides b Q G → Decides (both a b) (P × Q) (F ⊎ G)
both_decides {a} {b} d e =
    record {
      holds = λ t. (d.holds (both_0 a b t), e.holds (both_1 a b t));
      passed = λ x. both_of a b (d.passed x.0) (e.passed x.1);
      wrong = λ f. elim (both_false a b f) [ inl x ↦ inl (d.wrong x) | inr y ↦ inr (e.wrong y) ];
      failed = λ x. elim x [ inl y ↦ rw (d.failed y) | inr y ↦ both_right a (e.failed y) ];
    }
  where
    both_right : (c : Bool) → b ≡ false → both c b ≡ false
    both_right true f = f
    both_right false f = refl

-- where the first holds the second is asked for
pub implies_decides : {a b : Bool} {P F Q G : Type 0} → Decides a P F → Decides b Q G → Decides (implies a b) (P → Q) (P × G)
implies_decides {a} {b} d e =
    record {
      holds = λ t x. e.holds (imp_use a b t (d.passed x));
      passed = λ h. imp_of a b (λ t. e.passed (h (d.holds t)));
      wrong = λ f. (d.holds (imp_false a b f).0, e.wrong (imp_false a b f).1);
      failed = λ x. rw (d.passed x.0, e.failed x.1);
    }

pub all_decides : {p : ℕ → Bool} {P F : ℕ → Type 0} → ((i : ℕ) → Decides (p i) (P i) (F i)) → (n : ℕ)
    → Decides (all_below n p) ((i : ℕ) → i < n → P i) ((i : ℕ) × (i < n) × F i)
all_decides {p} d n =
    record {
      holds = λ t i h. (d i).holds (all_at p n i t h);
      passed = λ h. all_of p n (λ i k. (d i).passed (h i k));
      wrong = λ f. let r : (i : ℕ) × (i < n) × (p i ≡ false) = all_not p n f in (r.0, r.1, (d r.0).wrong r.2);
      failed = λ x. all_fails p n x.0 x.1 ((d x.0).failed x.2);
    }
