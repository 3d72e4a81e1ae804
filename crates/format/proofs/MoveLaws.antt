-- Places that move, and bytes on either side of those that are replaced.
use mathlib.Core.Path.{◌≡◌, ◌∙◌}
use mathlib.Core.Logic.{◌⊎◌, inl, inr}
use Prim.Native.Nat.{ℕ, ◌+◌, ◌-◌, ◌≤◌, ◌<◌}
use native.Mathlib.Omega.{arith}
use borrow.Author.Tests.{lt-ltb, le-ltb}
use Rattle.bits.proofs.TestLaws.{below_or}
use Rattle.format.specs.Move.{moved}

pub moved-low : (from to p : ℕ) → p < from → moved from to p ≡ p
unfolding moved
moved-low from to p h = rw (lt-ltb p from h)

pub moved-high : (from to p : ℕ) → from ≤ p → moved from to p ≡ p - from + to
unfolding moved
moved-high from to p h = rw (le-ltb p from h)

-- ---- the bytes from a to b are replaced by n; w bytes from p on stand on one side of them

abbrev pub Side : ℕ → ℕ → ℕ → ℕ → Type 0
Side a b p w = ((p < b) × (p + w ≤ a)) ⊎ (b ≤ p)

pub side : (a b p w : ℕ) → (p < b → p + w ≤ a) → Side a b p w
side a b p w h = elim (below_or p b) [ inl t ↦ inl (t, h t) | inr t ↦ inr t ]

-- w bytes from p and v bytes from q share none
abbrev pub ShareNone : ℕ → ℕ → ℕ → ℕ → Type 0
ShareNone p w q v = p < q + v → p + w ≤ q

module _ (a b n : ℕ) where
  -- where they go
  pub moved_side : (p w : ℕ) → Side a b p w → ((p + w ≤ a) × (moved b (a + n) p ≡ p))
      ⊎ ((b ≤ p) × (moved b (a + n) p ≡ p - b + (a + n)))
  moved_side p w (inl h) = inl (h.1, moved-low b (a + n) p h.0)
  moved_side p w (inr h) = inr (h, moved-high b (a + n) p h)

  -- they stay at or past what they were at or past
  pub moved_from : (p w x : ℕ) → Side a b p w → x ≤ a → x ≤ p → x ≤ moved b (a + n) p
  moved_from p w x d h k = elim (moved_side p w d) [ inl r ↦ rw r.1 k | inr r ↦ rw r.1 (omega arith) ]

  -- they stay within what they were within
  pub moved-within : (p w x : ℕ) → Side a b p w → p + w ≤ x → b ≤ x → moved b (a + n) p + w ≤ x - b + (a + n)
  moved-within p w x d h k =
      elim (moved_side p w d) [ inl r ↦ rw r.1 (omega (arith, r.0)) | inr r ↦ rw r.1 (omega (arith, r.0)) ]

  -- bytes that share none with others still share none
  pub moved_apart : (p w q v : ℕ) → Side a b p w → Side a b q v → ShareNone p w q v
      → ShareNone (moved b (a + n) p) w (moved b (a + n) q) v
  moved_apart p w q v d e h g =
      elim (moved_side p w d) [
        | inl r ↦ elim (moved_side q v e) [
          | inl t ↦ rw (r.1, t.1) (h (rw (r.1, t.1) at g))
          | inr t ↦ rw (r.1, t.1) (omega (arith, r.0, t.0))
        ]
        | inr r ↦ elim (moved_side q v e) [
          | inl t ↦ absurd (omega (arith, r.0, r.1, t.0, t.1))
          | inr t ↦ rw (r.1, t.1) (omega (arith, r.0, t.0, h (omega (arith, r.0, r.1, t.0, t.1))))
        ]
      ]

  -- a place among them moves with them
  pub moved-run : a ≤ b → (p w j : ℕ) → Side a b p w → j < w → Side a b (p + j) 1
      × (moved b (a + n) (p + j) ≡ moved b (a + n) p + j)
  moved-run o p w j (inl h) k = (
    inl (omega (arith, h.1), omega (arith, h.1)),
    moved-low b (a + n) (p + j) (omega (arith, h.1))
        ∙ rw (moved-low b (a + n) p h.0),
  )
  moved-run o p w j (inr h) k =
      (inr (omega arith), moved-high b (a + n) (p + j) (omega arith) ∙ rw (moved-high b (a + n) p h) (omega arith))
