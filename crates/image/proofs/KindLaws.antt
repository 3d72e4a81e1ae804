-- Kinds: the flag and the rank of an id by the run that covers it. 01, Image rules: "kinds cover the ids in order".
use mathlib.Core.Path.{◌≡◌, refl, ap, ◌∙◌}
use mathlib.Core.Bool.{Bool, true, false}
use mathlib.Core.Logic.{inl, inr}
use mathlib.Core.List.{List}
use Prim.Native.Nat.{ℕ, zero, suc, ◌+◌, ◌*◌, ◌≤◌, ◌<◌}
use native.Mathlib.Nat.{not-suc-le-zero, mul-one, mul-zero}
use native.Mathlib.Omega.{arith}
use borrow.Author.Tests.{le-leb, lt-leb}
use Rattle.bits.specs.Choice.{pick, sum_below}
use Rattle.bits.proofs.TestLaws.{below, sum_split, sum_le, sum_at, sum_same}
use Rattle.format.specs.declared.Layout.{Layout}
use Rattle.format.specs.Entry.{bit}
use Rattle.image.specs.Sections.{kinds_in, identifiers_in, strings_in}
use Rattle.image.specs.Kinds.{kind_in, run_of, is_identifier_run, identifier_run, covered, identified, flag_of, is_identifier, rank_of}
use Rattle.image.specs.Admitted.{Admitted}

-- how many identifiers come before id i, by the first n of the kind words w
abbrev pub rank_by : (ℕ → ℕ) → ℕ → ℕ → ℕ
rank_by w n i = sum_below i (λ j. bit (flag_of w n j))

times_bit : (r : ℕ) (b : Bool) → r * bit b ≡ pick b r 0
times_bit r true = mul-one r
times_bit r false = mul-zero r

module _ (w : ℕ → ℕ) where
  -- ---- run k covers the ids from the end of the runs before it on

  pub covered_next : (k : ℕ) → covered w (suc k) ≡ covered w k + run_of (w k)
  unfolding covered sum_below
  covered_next k = refl

  pub identified_next : (k : ℕ) → identified w (suc k) ≡ identified w k + identifier_run (w k)
  unfolding identified sum_below
  identified_next k = refl

  covered_le : (k n : ℕ) → k ≤ n → covered w k ≤ covered w n
  unfolding covered
  covered_le k n h = sum_le (λ j. run_of (w j)) k n h

  -- its ids have its flag
  pub flag_in_run : (n k j : ℕ) → k < n → covered w k ≤ j → j < covered w k + run_of (w k)
      → flag_of w n j ≡ is_identifier_run (w k)
  unfolding flag_of
  flag_in_run zero k j h a b = absurd (not-suc-le-zero h)
  flag_in_run (suc n) k j h a b =
      elim (below k n h) [
        | inl e ↦ rw (← e, le-leb (covered w k) j a)
        | inr l ↦ rw (lt-leb (covered w n) j (omega (arith, covered_next k, covered_le (suc k) n l))) (flag_in_run n k j l a b)
      ]

  -- and add to the rank where it is a run of identifiers
  run_ranks : (n k r : ℕ) → k < n → r ≤ run_of (w k) → rank_by w n (covered w k) ≡ identified w k
      → rank_by w n (covered w k + r) ≡ identified w k + pick (is_identifier_run (w k)) r 0
  run_ranks n k r h a e =
      sum_split (λ j. bit (flag_of w n j)) (covered w k) r
      ∙ rw (
        e,
        sum_same (λ j. bit (flag_of w n (covered w k + j))) (bit (is_identifier_run (w k))) r
            (λ j l. ap bit (flag_in_run n k (covered w k + j) h (omega arith) (omega arith))),
      )
      (ap (λ (x : ℕ). identified w k + x) (times_bit r (is_identifier_run (w k))))

  -- the rank at the start of run k
  pub rank_of_runs : (n k : ℕ) → k ≤ n → rank_by w n (covered w k) ≡ identified w k
  unfolding covered identified sum_below
  rank_of_runs n zero h = refl
  rank_of_runs n (suc k) h = run_ranks n k (run_of (w k)) h (omega arith) (rank_of_runs n k (omega arith))

  -- and within it
  pub rank_in_run_lem : (n k r : ℕ) → k < n → r ≤ run_of (w k)
      → rank_by w n (covered w k + r) ≡ identified w k + pick (is_identifier_run (w k)) r 0
  rank_in_run_lem n k r h a = run_ranks n k r h a (rank_of_runs n k (omega arith))

-- ---- in an image

-- no two identifiers have one rank
pub rank_rises : (l : Layout) (s : List ℕ) (i j : ℕ) → i < j → is_identifier l s i ≡ true → rank_of l s i < rank_of l s j
unfolding rank_of
rank_rises l s i j h f =
    let one : bit (is_identifier l s i) ≡ 1 = ap bit f in
    omega (arith, sum_at (λ k. bit (is_identifier l s k)) i j h)

module _ {l : Layout} {s : List ℕ} (a : Admitted l s) where
  -- behind the last id, the rank is the count of all identifiers
  rank_all : rank_of l s (strings_in s) ≡ identifiers_in s
  unfolding rank_of is_identifier
  rank_all = rw (a.covers, a.identifiers) at (rank_of_runs (kind_in l s) (kinds_in s) (kinds_in s) (omega arith))

  -- so the hash slot of an identifier is one of the section's
  pub rank_lt : (i : ℕ) → i < strings_in s → is_identifier l s i ≡ true → rank_of l s i < identifiers_in s
  rank_lt i h f = rw rank_all at (rank_rises l s i (strings_in s) h f)
