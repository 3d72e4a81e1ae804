-- Heads: the last entered key of a bucket. The words of the chains: none entered, one more entered or passed over, other words behind them.
use mathlib.Core.Path.{◌≡◌, refl, ap, sym, ◌∙◌}
use mathlib.Core.Bool.{Bool, true, false}
use mathlib.Core.Logic.{inl, inr, ◌≢◌}
use mathlib.Core.List.{List}
use Prim.Native.Nat.{ℕ, zero, suc, ◌+◌, ◌≤◌, ◌<◌}
use native.Mathlib.Nat.{zero-add}
use native.Mathlib.Numerals.{add-one}
use native.Mathlib.Omega.{arith}
use borrow.Author.Tests.{eq-eqb, eqb-true, eqb-false}
use lib.Dec.{eqb}
use lib.ListN.{length, get_or, set, length-set, replicate, length-replicate, get_or-replicate}
use lib.Seq.{sets, get_or-set_same, get_or-set_other}
use Rattle.bits.specs.Choice.{both}
use Rattle.bits.proofs.TestLaws.{which, below, both_0, both_1, both_of}
use Rattle.bits.proofs.WriteLaws.{sets_in}
use Rattle.chains.specs.Chains.{head_of, Chained, entered}

module _ (on : ℕ → Bool) (bucket : ℕ → ℕ) where
  -- key j is entered and has bucket b
  abbrev pub Own : ℕ → ℕ → Type 0
  Own b j = (on j ≡ true) × (bucket j ≡ b)

  abbrev own : ℕ → ℕ → Bool
  own b j = both (on j) (eqb (bucket j) b)

  own_is : (b j : ℕ) → own b j ≡ true → Own b j
  own_is b j e = (both_0 (on j) (eqb (bucket j) b) e, eqb-true (bucket j) b (both_1 (on j) (eqb (bucket j) b) e))

  is_own_lem : (b j : ℕ) → Own b j → own b j ≡ true
  is_own_lem b j e = both_of (on j) (eqb (bucket j) b) e.0 (eq-eqb (bucket j) b e.1)

  -- ---- heads

  pub head_low : (b k : ℕ) → head_of on bucket b k ≤ k
  unfolding head_of
  head_low b zero = omega arith
  head_low b (suc k) = elim (which (own b k)) [ inl e ↦ rw e (omega arith) | inr e ↦ rw e (omega (arith, head_low b k)) ]

  -- a head is the number of an entered key of its bucket
  pub head_own : (b k j : ℕ) → head_of on bucket b k ≡ suc j → (j < k) × Own b j
  unfolding head_of
  head_own b zero j h = absurd (omega arith)
  head_own b (suc k) j h =
      elim (which (own b k)) [
        | inl e ↦ let q : k ≡ j = omega (arith, rw e at h) in (omega arith, rw q at (own_is b k e))
        | inr e ↦ let g = head_own b k j (rw e at h) in (omega (arith, g.0), g.1)
      ]

  -- and no key behind it is one
  pub head_gap : (b k j : ℕ) → j < k → head_of on bucket b k ≤ j → Own b j → ⊥
  unfolding head_of
  head_gap b zero j h l g = omega arith
  head_gap b (suc k) j h l g =
      elim (which (own b k)) [
        | inl e ↦ omega (arith, rw e at l)
        | inr e ↦ elim (below j k h) [
          | inl q ↦ let x : own b k ≡ true = rw q at (is_own_lem b j g) in let z : ◌≡◌ {A = ℕ} 0 1 = cc in omega arith
          | inr m ↦ head_gap b k j m (rw e at l) g
        ]
      ]

  -- ---- words

  -- none entered: heads that are zeros
  pub chained_none : (m : ℕ) (w : List ℕ) → ((b : ℕ) → b < m → get_or w b 0 ≡ 0) → Chained on bucket m 0 w
  unfolding head_of
  chained_none m w z = record { heads = z; links = λ j l e. absurd (omega arith) }

  pub chained_clear : (m : ℕ) (old w : List ℕ) → m ≤ length old → w ≡ sets old 0 (replicate m 0) → Chained on bucket m 0 w
  chained_clear m old w h e =
      let l : length (replicate {A = ℕ} m 0) ≡ m = length-replicate {A = ℕ} m 0 in
      chained_none m w
      (λ b k. rw e (rw zero-add at (sets_in (replicate m 0) old 0 b (omega arith) (omega arith)) ∙ get_or-replicate m b 0 0 k))

  -- other words, the same as far as the links go
  pub chained_kept : (m k : ℕ) (w v : List ℕ) → Chained on bucket m k w → ((q : ℕ) → q < m + k → get_or v q 0 ≡ get_or w q 0)
      → Chained on bucket m k v
  chained_kept m k w v g same =
      record { heads = λ b l. same b (omega arith) ∙ g.heads b l; links = λ j l e. same (m + j) (omega arith) ∙ g.links j l e }

  module _ (m k : ℕ) (w : List ℕ) (g : Chained on bucket m k w) where
    -- a key that is passed over
    pub chained_skip : on k ≡ false → Chained on bucket m (suc k) w
    unfolding head_of
    chained_skip off =
        record {
          heads = λ b l. rw off (g.heads b l);
          links = λ j l e. elim (below j k l) [
            | inl q ↦ absurd (let x : on k ≡ true = rw q at e in let z : ◌≡◌ {A = ℕ} 0 1 = cc in omega arith)
            | inr q ↦ g.links j q e
          ];
        }

    module _ (low : bucket k < m) (long : m + k < length w) where
      abbrev was : ℕ
      was = get_or w (bucket k) 0

      abbrev after : List ℕ
      after = entered w m k (bucket k)

      at_head : get_or after (bucket k) 0 ≡ suc k
      at_head = get_or-set_same (set w (m + k) was) (bucket k) (k + 1) 0 (rw length-set (omega arith)) ∙ add-one k

      at_link : get_or after (m + k) 0 ≡ was
      at_link =
          get_or-set_other (set w (m + k) was) (bucket k) (m + k) (k + 1) 0 (λ e. omega arith)
          ∙ get_or-set_same w (m + k) was 0 long

      elsewhere : (q : ℕ) → q ≢ bucket k → q ≢ m + k → get_or after q 0 ≡ get_or w q 0
      elsewhere q x y =
          get_or-set_other (set w (m + k) was) (bucket k) q (k + 1) 0 x ∙ get_or-set_other w (m + k) q was 0 y

      entered_heads : on k ≡ true → (b : ℕ) → b < m → get_or after b 0 ≡ head_of on bucket b (suc k)
      unfolding head_of
      entered_heads here b l =
          elim (which (eqb (bucket k) b)) [
            | inl e ↦ let q : bucket k ≡ b = eqb-true (bucket k) b e in rw (here, e, ← q) at_head
            | inr e ↦ rw (here, e) (elsewhere b (λ q. eqb-false (bucket k) b e (sym q)) (λ q. omega arith) ∙ g.heads b l)
          ]

      entered_links : (j : ℕ) → j < suc k → on j ≡ true → get_or after (m + j) 0 ≡ head_of on bucket (bucket j) j
      entered_links j l e =
          elim (below j k l) [
            | inl q ↦ rw q (at_link ∙ g.heads (bucket k) low)
            | inr q ↦ elsewhere (m + j) (λ z. omega arith) (λ z. omega arith) ∙ g.links j q e
          ]

      -- a key that is entered
      pub chained_enter : on k ≡ true → (v : List ℕ) → v ≡ entered w m k (bucket k) → Chained on bucket m (suc k) v
      chained_enter here v e =
          record { heads = λ b l. rw e (entered_heads here b l); links = λ j l h. rw e (entered_links j l h) }

-- ---- other keys that go by the same buckets

module _ (on off : ℕ → Bool) (bucket place : ℕ → ℕ) where
  pub head_same : (b k : ℕ) → ((j : ℕ) → j < k → (on j ≡ off j) × (bucket j ≡ place j))
      → head_of on bucket b k ≡ head_of off place b k
  unfolding head_of
  head_same b zero h = refl
  head_same b (suc k) h =
      let e = h k (omega arith) in
      rw (e.0, e.1, head_same b k (λ j l. h j (omega arith)))

  pub chained_same : (m k : ℕ) (w : List ℕ) → ((j : ℕ) → j < k → (on j ≡ off j) × (bucket j ≡ place j))
      → Chained on bucket m k w
      → Chained off place m k w
  chained_same m k w h g =
      record {
        heads = λ b l. g.heads b l ∙ head_same b k h;
        links = λ j l e.
            let q = h j l in
            g.links j l (q.0 ∙ e) ∙ head_same (bucket j) j (λ i n. h i (omega arith))
            ∙ ap (λ (b : ℕ). head_of off place b j) q.1;
      }
