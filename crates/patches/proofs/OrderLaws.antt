-- Checks judged in an order of numbers that is a list: where they stand in it as they are judged, the answer is the number among those
-- that are met which is due first.
use mathlib.Core.Path.{◌≡◌, refl, sym, ◌∙◌, ap}
use mathlib.Core.Bool.{Bool, true, false}
use mathlib.Core.Logic.{inl, inr, ◌↔◌}
use mathlib.Core.List.{List, [], ◌∷◌}
use Prim.Native.Nat.{ℕ, zero, suc, ◌≤◌, ◌<◌}
use native.Mathlib.Omega.{arith}
use borrow.Author.Tests.{eqb-true, eq-eqb}
use lib.Dec.{eqb}
use lib.ListN.{length}
use Rattle.refusals.specs.Order.{turn_in}
use Rattle.bits.specs.Choice.{pick, both, Check, check, judge}
use Rattle.bits.proofs.TestLaws.{which, below_or, both_0, both_1, either_or, either_true}
use Rattle.bits.proofs.JudgeLaws.{rising, given, Shows, judge_shows, judge_least, judge_most}

-- no two numbers of an order have one turn
turn_one : (o : List ℕ) (a b : ℕ) → turn_in o a ≡ turn_in o b → turn_in o a < length o → a ≡ b
unfolding turn_in
turn_one [] a b e h = absurd (omega arith)
turn_one (k ∷ ks) a b e h =
    elim (which (eqb k a)) [
      | inl p ↦ elim (which (eqb k b)) [
        | inl q ↦ sym (eqb-true k a p) ∙ eqb-true k b q
        | inr q ↦ absurd (omega (arith, rw (p, q) at e))
      ]
      | inr p ↦ elim (which (eqb k b)) [
        | inl q ↦ absurd (omega (arith, rw (p, q) at e))
        | inr q ↦ turn_one ks a b (omega (arith, rw (p, q) at e)) (omega (arith, rw p at h))
      ]
    ]

module _ (o : List ℕ) where
  -- turns counted from 1, so that 0 is still "no number"
  abbrev pub turn : ℕ → ℕ
  turn zero = 0
  turn (suc n) = suc (turn_in o (suc n))

  turn_is : (n : ℕ) → 0 < n → turn n ≡ suc (turn_in o n)
  turn_is zero h = absurd (omega arith)
  turn_is (suc n) h = refl

  abbrev pub in_turns : List Check → List Check
  in_turns [] = []
  in_turns (c ∷ cs) = check (turn c.number) c.met ∷ in_turns cs

  judge-turns : (cs : List Check) → judge (in_turns cs) ≡ turn (judge cs)
  unfolding judge
  judge-turns [] = refl
  judge-turns (c ∷ cs) = go c.met (judge-turns cs)
    where
      go : (b : Bool) → judge (in_turns cs) ≡ turn (judge cs)
          → pick b (turn c.number) (judge (in_turns cs)) ≡ turn (pick b c.number (judge cs))
      go true e = refl
      go false e = e

  given-turns : (n : ℕ) (cs : List Check) → given n cs ≡ true → given (turn n) (in_turns cs) ≡ true
  given-turns n [] g = absurd (let z : ◌≡◌ {A = ℕ} 0 1 = cc in omega arith)
  given-turns n (c ∷ cs) g =
      elim (either_or (both (eqb c.number n) c.met) (given n cs) g) [
        | inl h ↦ let e : c.number ≡ n = eqb-true c.number n (both_0 (eqb c.number n) c.met h) in
            simp (eq-eqb (turn c.number) (turn n) (ap turn e), both_1 (eqb c.number n) c.met h)
        | inr h ↦ simp (given-turns n cs h, either_true)
      ]

-- ---- exactly: F names what is wrong, number by number

-- checks in the order o that are met exactly where F names what is wrong
pub record InOrder (o : List ℕ) (F : ℕ → Type 0) (cs : List Check) : Type 0 where
  pub rises : rising 1 (length o) (in_turns o cs) ≡ true
  pub shows : Shows F cs
  pub gives : (n : ℕ) → F n → given n cs ≡ true

module _ (o : List ℕ) (F : ℕ → Type 0) (cs : List Check) (ok : InOrder o F cs) where
  least : (n : ℕ) → F n → (1 ≤ turn o (judge cs)) × (turn o (judge cs) ≤ turn o n)
  least n x = rw (judge-turns o cs) at (judge_least (length o) 1 (turn o n) (in_turns o cs) ok.rises (given-turns o n cs (ok.gives n x)))

  most : turn o (judge cs) ≤ length o
  most = rw (judge-turns o cs) at (judge_most (length o) 1 (in_turns o cs) ok.rises)

  -- where F holds of some number, that is not 0, and something is answered
  pub not-zero : (n : ℕ) → F n → 0 < n
  not-zero n x = elim (below_or 0 n) [
    | inl h ↦ h
    | inr h ↦ let z : n ≡ 0 = omega arith in absurd (omega (arith, ap (turn o) z, (least n x).0, (least n x).1))
  ]

  pub some : (n : ℕ) → F n → 0 < judge cs
  some n x = elim (below_or 0 (judge cs)) [
    | inl h ↦ h
    | inr h ↦ let z : judge cs ≡ 0 = omega arith in absurd (omega (arith, ap (turn o) z, (least n x).0))
  ]

  -- the answer is n where F holds of n, and of no number that is due before
  pub judged_in_order : (n : ℕ) → 0 < n → judge cs ≡ n ↔ (F n × ((k : ℕ) → turn_in o k < turn_in o n → F k → ⊥))
  judged_in_order n h = (
    λ e. (
      rw e at (judge_shows F cs ok.shows (omega arith)),
      λ k t x. omega (arith, (least k x).1, ap (turn o) e, turn_is o n h, turn_is o k (not-zero k x)),
    ),
    λ x.
        let j = some n x.0 in
        let a : turn o (judge cs) ≡ suc (turn_in o (judge cs)) = turn_is o (judge cs) j in
        elim (below_or (turn_in o (judge cs)) (turn_in o n)) [
          | inl t ↦ absurd (x.1 (judge cs) t (judge_shows F cs ok.shows j))
          | inr t ↦ turn_one o (judge cs) n (omega (arith, (least n x.0).1, a, turn_is o n h)) (omega (arith, most, a))
        ],
  )
