-- Tests in a form that computes: a choice, tests joined, tests of all numbers below a bound, the first of a list of checks.
use Rattle.std.specs.Prelude.{ℕ, zero, suc, ◌+◌, Bool, true, false, List, [], ◌∷◌}

-- the first where the test holds, else the second
abbrev pub pick : {A : Type 0} → Bool → A → A → A
pick true a b = a
pick false a b = b

-- both tests hold
abbrev pub both : Bool → Bool → Bool
both true b = b
both false b = false

-- one of the tests holds
abbrev pub either : Bool → Bool → Bool
either true b = true
either false b = b

-- where the first test holds, so does the second
abbrev pub implies : Bool → Bool → Bool
implies a b = pick a b true

-- the test holds at each number below n; a loop that goes up meets the last one last
unfoldable pub all_below : ℕ → (ℕ → Bool) → Bool
all_below zero p = true
all_below (suc n) p = both (p n) (all_below n p)

-- the sum of f over the numbers below n
unfoldable pub sum_below : ℕ → (ℕ → ℕ) → ℕ
sum_below zero f = 0
sum_below (suc n) f = sum_below n f + f n

-- a refusal's number, and whether its condition is met
pub record Check : Type 0 where
  pub number : ℕ
  pub met : Bool

abbrev pub check : ℕ → Bool → Check
check n met = record { number = n; met = met }

-- the number of the first check that is met, or 0
unfoldable pub judge : List Check → ℕ
judge [] = 0
judge (c ∷ cs) = pick c.met c.number (judge cs)
