-- Checks judged in order. Where their numbers never go down, the answer is the least number of a check that is met.
use Rattle.std.proofs.Common.{◌≡◌, ℕ, ◌<◌, ◌≤◌, Bool, true, false, eqb, ltb, leb, ◌⊎◌, ◌↔◌, List, [], ◌∷◌, ◌++◌, refl, inl, inr}
use Rattle.std.proofs.Common.{arith, ltb-true, ne_eqb, eqb-true, le-leb, leb-true}
use Rattle.bits.specs.Choice.{pick, both, either, Check, judge}
use Rattle.bits.proofs.TestLaws.{both_0, both_1, either_or, either_true, below_or}

-- a check that is passed over
pub judge_pass : (c : Check) (cs : List Check) → 0 < c.number → judge (c ∷ cs) ≡ 0 → (c.met ≡ false) × (judge cs ≡ 0)
unfolding judge
judge_pass c cs h e = go c.met refl e
  where
    go : (b : Bool) → c.met ≡ b → pick b c.number (judge cs) ≡ 0 → (c.met ≡ false) × (judge cs ≡ 0)
    go true q e = absurd (omega arith)
    go false q e = (q, e)

-- ---- what the laws below ask of checks

-- the numbers go up from k to at most m
abbrev pub rising : ℕ → ℕ → List Check → Bool
rising k m [] = leb k m
rising k m (c ∷ cs) = both (leb k c.number) (rising c.number m cs)

-- a check of number n is met
abbrev pub given : ℕ → List Check → Bool
given n [] = false
given n (c ∷ cs) = either (both (eqb c.number n) c.met) (given n cs)

-- each check that is met shows F of its number
infixr 5 ◌also◌
pub data Shows (F : ℕ → Type 0) : List Check → Type 0 where
  nothing : Shows F []
  ◌also◌ : {c : Check} {cs : List Check} → (c.met ≡ true → F c.number) → Shows F cs → Shows F (c ∷ cs)

-- ---- the answer

-- an answer other than 0 shows F
pub judge_shows : (F : ℕ → Type 0) (cs : List Check) → Shows F cs → 0 < judge cs → F (judge cs)
unfolding judge
judge_shows F cs nothing h = absurd (omega arith)
judge_shows F cs (◌also◌ {c = c} {cs = ds} f x) h = go c.met f (λ k. judge_shows F ds x k) h
  where
    go : (b : Bool) → (b ≡ true → F c.number) → (0 < judge ds → F (judge ds)) → 0 < pick b c.number (judge ds)
        → F (pick b c.number (judge ds))
    go true f r h = f refl
    go false f r h = r h

module _ (m : ℕ) where
  -- the numbers after the first, and where they start
  from : (k : ℕ) (c : Check) (cs : List Check) → rising k m (c ∷ cs) ≡ true → k ≤ c.number
  from k c cs t = leb-true k c.number (both_0 (leb k c.number) (rising c.number m cs) t)

  rest : (k : ℕ) (c : Check) (cs : List Check) → rising k m (c ∷ cs) ≡ true → rising c.number m cs ≡ true
  rest k c cs t = both_1 (leb k c.number) (rising c.number m cs) t

  rising_most : (k : ℕ) (cs : List Check) → rising k m cs ≡ true → k ≤ m
  rising_most k [] t = leb-true k m t
  rising_most k (c ∷ cs) t = omega (arith, from k c cs t, rising_most c.number cs (rest k c cs t))

  -- the answer is at most the last number
  pub judge_most : (k : ℕ) (cs : List Check) → rising k m cs ≡ true → judge cs ≤ m
  unfolding judge
  judge_most k [] t = omega arith
  judge_most k (c ∷ cs) t = go c.met (rising_most c.number cs (rest k c cs t)) (judge_most c.number cs (rest k c cs t))
    where
      go : (b : Bool) → c.number ≤ m → judge cs ≤ m → pick b c.number (judge cs) ≤ m
      go true h r = h
      go false h r = r

  -- a number that is given is no less than the first
  given_from : (k n : ℕ) (cs : List Check) → rising k m cs ≡ true → given n cs ≡ true → k ≤ n
  given_from k n [] t g = let z : ◌≡◌ {A = ℕ} 0 1 = cc in absurd (omega arith)
  given_from k n (c ∷ cs) t g =
      elim (either_or (both (eqb c.number n) c.met) (given n cs) g) [
        | inl h ↦ omega (arith, from k c cs t, eqb-true c.number n (both_0 (eqb c.number n) c.met h))
        | inr h ↦ omega (arith, from k c cs t, given_from c.number n cs (rest k c cs t) h)
      ]

  -- nor is it less than the answer, which then is one of the numbers
  pub judge_least : (k n : ℕ) (cs : List Check) → rising k m cs ≡ true → given n cs ≡ true → (k ≤ judge cs)
      × (judge cs ≤ n)
  unfolding judge
  judge_least k n [] t g = let z : ◌≡◌ {A = ℕ} 0 1 = cc in absurd (omega arith)
  judge_least k n (c ∷ cs) t g =
      let a : leb c.number c.number ≡ true = le-leb c.number c.number (omega arith) in
      let r = go c.met (given_from c.number n (c ∷ cs) (rw a (rest k c cs t)) g)
      (elim (either_or (both (eqb c.number n) c.met) (given n cs) g) [
        | inl h ↦ inl (both_1 (eqb c.number n) c.met h)
        | inr h ↦ inr (judge_least c.number n cs (rest k c cs t) h)
      ]) in
      (omega (arith, from k c cs t, r.0), r.1)
    where
      go : (b : Bool) → c.number ≤ n → (b ≡ true) ⊎ ((c.number ≤ judge cs) × (judge cs ≤ n))
          → (c.number ≤ pick b c.number (judge cs)) × (pick b c.number (judge cs) ≤ n)
      go true f w = (omega arith, f)
      go false f w = elim w [ inl h ↦ let z : ◌≡◌ {A = ℕ} 0 1 = cc in absurd (omega arith) | inr h ↦ h ]

-- ---- checks behind others

-- no check has the number 0
abbrev pub numbered : List Check → Bool
numbered [] = true
numbered (c ∷ cs) = both (ltb 0 c.number) (numbered cs)

-- the later ones are judged where none of the first is met
pub judge_append : (xs ys : List Check) → numbered xs ≡ true → judge (xs ++ ys) ≡ pick (eqb (judge xs) 0) (judge ys) (judge xs)
unfolding judge
judge_append [] ys t = refl
judge_append (c ∷ cs) ys t =
    let h : 0 < c.number = ltb-true 0 c.number (both_0 (ltb 0 c.number) (numbered cs) t) in
    go c.met (ne_eqb c.number 0 (λ e. omega arith)) (judge_append cs ys (both_1 (ltb 0 c.number) (numbered cs) t))
  where
    go : (b : Bool) → eqb c.number 0 ≡ false → judge (cs ++ ys) ≡ pick (eqb (judge cs) 0) (judge ys) (judge cs)
        → pick b c.number (judge (cs ++ ys)) ≡ pick (eqb (pick b c.number (judge cs)) 0) (judge ys)
        (pick b c.number (judge cs))
    go true e r = rw e
    go false e r = r

pub given_first : (n : ℕ) (xs ys : List Check) → given n xs ≡ true → given n (xs ++ ys) ≡ true
given_first n [] ys g = absurd (let z : ◌≡◌ {A = ℕ} 0 1 = cc in omega arith)
given_first n (c ∷ cs) ys g =
    elim (either_or (both (eqb c.number n) c.met) (given n cs) g) [
      | inl h ↦ rw h refl
      | inr h ↦ simp (given_first n cs ys h, either_true)
    ]

pub given_last : (n : ℕ) (xs ys : List Check) → given n ys ≡ true → given n (xs ++ ys) ≡ true
given_last n [] ys g = g
given_last n (c ∷ cs) ys g = simp (given_last n cs ys g, either_true)

pub shows_append : (F : ℕ → Type 0) (xs ys : List Check) → Shows F xs → Shows F ys → Shows F (xs ++ ys)
shows_append F [] ys nothing s = s
shows_append F (c ∷ cs) ys (f also r) s = f also shows_append F cs ys r s

-- what is shown of checks may be said in other words
pub shows_map : (F G : ℕ → Type 0) (cs : List Check) → ((n : ℕ) → F n → G n) → Shows F cs → Shows G cs
shows_map F G [] w nothing = nothing
shows_map F G (c ∷ cs) w (f also r) = (λ t. w c.number (f t)) also shows_map F G cs w r

-- ---- exactly: F names what is wrong, number by number

-- the numbers go up from 1 to at most m, a check that is met shows F of its number, and where F holds a check of that number is met
pub record Named (F : ℕ → Type 0) (m : ℕ) (cs : List Check) : Type 0 where
  pub up : rising 1 m cs ≡ true
  pub shows : Shows F cs
  pub gives : (n : ℕ) → F n → given n cs ≡ true

module _ (F : ℕ → Type 0) (m : ℕ) (cs : List Check) (x : Named F m cs) where
  -- what F holds of is no less than the answer
  least : (n : ℕ) → F n → (1 ≤ judge cs) × (judge cs ≤ n)
  least n f = judge_least m 1 n cs x.up (x.gives n f)

  -- the answer is n where F holds of n and of no number before it
  pub judged_exactly : (n : ℕ) → 0 < n → judge cs ≡ n ↔ (F n × ((k : ℕ) → k < n → F k → ⊥))
  judged_exactly n h = (
    λ e. (rw e at (judge_shows F cs x.shows (omega arith)), λ k l f. omega (arith, least k f)),
    λ f. elim (below_or (judge cs) n) [
      | inl l ↦ absurd (f.1 (judge cs) l (judge_shows F cs x.shows (omega (arith, least n f.0))))
      | inr l ↦ omega (arith, least n f.0)
    ],
  )

  -- and 0 where it holds of none
  pub judged_none : judge cs ≡ 0 ↔ ((k : ℕ) → F k → ⊥)
  judged_none = (
    λ e k f. omega (arith, least k f),
    λ f. elim (below_or 0 (judge cs)) [ inl l ↦ absurd (f (judge cs) (judge_shows F cs x.shows l)) | inr l ↦ omega arith ],
  )
