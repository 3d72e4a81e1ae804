-- The walk counted: a small entry for each string, and a pair for each that overflows. 02, No. 9: "finding id n visits at most n + 1
-- small entries and no more overflow entries than small ones".
use mathlib.Core.Path.{◌≡◌, refl, sym, ◌∙◌, ap}
use mathlib.Core.Bool.{Bool, true, false}
use mathlib.Core.List.{List, [], ◌∷◌, ◌++◌}
use Prim.Native.Nat.{ℕ, zero, suc, ◌+◌, ◌≤◌, ◌<◌}
use native.Mathlib.Nat.{zero-add, suc-add}
use native.Mathlib.Numerals.{add-one}
use native.Mathlib.Omega.{arith}
use Rattle.bits.specs.Choice.{pick, sum_below}
use Rattle.bits.proofs.TestLaws.{sum_le}
use Rattle.format.specs.declared.Layout.{Layout}
use Rattle.format.specs.Entry.{bit}
use Rattle.image.specs.Sections.{strings_in, overflows_in}
use Rattle.image.specs.Strings.{is_full, over_before, small_in}
use Rattle.image.specs.Admitted.{Admitted}
use Rattle.image.proofs.PlaceLaws.{over_sum}
use Rattle.string_walk.specs.declared.Counts.{Counts}
use Rattle.string_walk.specs.Walk.{Read, small, pair, reads_at, walk, smalls, pairs, counted, visits, Walked}

bit_most : (b : Bool) → bit b ≤ 1
bit_most true = omega arith
bit_most false = omega arith

-- of n tests at most n hold
bits_most : (f : ℕ → Bool) (n : ℕ) → sum_below n (λ j. bit (f j)) ≤ n
unfolding sum_below
bits_most f zero = omega arith
bits_most f (suc n) = omega (arith, bits_most f n, bit_most (f n))

-- ---- what is read, one list behind the other

smalls_append : (a b : List Read) → smalls (a ++ b) ≡ smalls a + smalls b
unfolding smalls
smalls_append [] b = sym (zero-add (smalls b))
smalls_append (small i ∷ a) b = ap suc (smalls_append a b) ∙ sym (suc-add (smalls a) (smalls b))
smalls_append (pair k ∷ a) b = smalls_append a b

pairs_append : (a b : List Read) → pairs (a ++ b) ≡ pairs a + pairs b
unfolding pairs
pairs_append [] b = sym (zero-add (pairs b))
pairs_append (small i ∷ a) b = pairs_append a b
pairs_append (pair k ∷ a) b = ap suc (pairs_append a b) ∙ sym (suc-add (pairs a) (pairs b))

-- ---- the walk

module _ (w : ℕ → ℕ) where
  one_small : (i : ℕ) → smalls (reads_at w i) ≡ 1
  unfolding reads_at smalls
  one_small i = go (is_full (w i))
    where
      go : (b : Bool) → smalls (small i ∷ pick b (pair (over_before w i) ∷ []) []) ≡ 1
      go true = refl
      go false = refl

  its_pairs : (i : ℕ) → pairs (reads_at w i) ≡ bit (is_full (w i))
  unfolding reads_at pairs
  its_pairs i = go (is_full (w i))
    where
      go : (b : Bool) → pairs (small i ∷ pick b (pair (over_before w i) ∷ []) []) ≡ bit b
      go true = refl
      go false = refl

  small_count : (n : ℕ) → smalls (walk w n) ≡ n
  unfolding walk smalls
  small_count zero = refl
  small_count (suc n) = omega (arith, smalls_append (walk w n) (reads_at w n), one_small n, small_count n)

  pair_count : (n : ℕ) → pairs (walk w n) ≡ over_before w n
  unfolding walk pairs over_before
  pair_count zero = refl
  pair_count (suc n) = omega (arith, pairs_append (walk w n) (reads_at w n), its_pairs n, pair_count n)

  -- over the first n strings: n small entries, and a pair for each of them that overflows
  pub walk_counts : (n : ℕ) → counted (walk w n) ≡ record { small = n; over = over_before w n }
  unfolding counted
  walk_counts n = rw (small_count n, pair_count n)

  -- no more strings overflow than there are
  pub over_most : (n : ℕ) → over_before w n ≤ n
  over_most n = rw (over_sum w n) (bits_most (λ j. is_full (w j)) n)

  over_le : (i n : ℕ) → i ≤ n → over_before w i ≤ over_before w n
  over_le i n h = rw (over_sum w i, over_sum w n) (sum_le (λ j. bit (is_full (w j))) i n h)

-- ---- in an image

module _ (l : Layout) (s : List ℕ) (id : ℕ) where
  abbrev found : Counts
  found = record { small = id + 1; over = over_before (small_in l s) (id + 1) }

  visits_are : visits l s id ≡ found
  unfolding visits
  visits_are = walk_counts (small_in l s) (suc id) ∙ rw (← add-one id)

  -- finding string id visits id + 1 small entries: its own and those before it
  pub small-visits : (visits l s id).small ≡ id + 1
  small-visits = ap (λ (c : Counts). c.small) visits_are

  -- and as many pairs as overflow among these
  pub over_visits : (visits l s id).over ≡ over_before (small_in l s) (id + 1)
  over_visits = ap (λ (c : Counts). c.over) visits_are

  -- no more overflow entries than small ones
  pub visits_most : (visits l s id).over ≤ (visits l s id).small
  visits_most = omega (arith, small-visits, over_visits, over_most (small_in l s) (id + 1))

  -- and none that the table does not have
  pub visits_there : Admitted l s → id < strings_in s → (visits l s id).over ≤ overflows_in s
  visits_there a h = omega (arith, over_visits, over_le (small_in l s) (id + 1) (strings_in s) (omega arith), a.overflows)

-- ---- as the code carries it along

-- before the first string
pub walked_none : (l : Layout) (s : List ℕ) → Walked l s (record { small = 0; over = 0 })
unfolding counted walk smalls pairs
walked_none l s = refl

module _ (l : Layout) (s : List ℕ) (c : Counts) where
  -- what a walk has visited is told by the number of its next string
  pub walked_over : Walked l s c → c.over ≡ over_before (small_in l s) c.small
  walked_over h = ap (λ (x : Counts). x.over) h ∙ ap (λ (x : Counts). x.over) (walk_counts (small_in l s) c.small)

  pub over_walked : c.over ≡ over_before (small_in l s) c.small → Walked l s c
  over_walked h = rw (walk_counts (small_in l s) c.small, ← h)

  module _ (h : Walked l s c) (id : ℕ) where
    -- the same, with the number under another name
    pub walked_as : c.small ≡ id → Walked l s (record { small = id; over = c.over })
    walked_as e = rw (walk_counts (small_in l s) id, walked_over h, e)

    -- behind string id it is what locating that string visits
    pub walked_visits : c.small ≡ id + 1 → c ≡ visits l s id
    unfolding visits
    walked_visits e = h ∙ rw (e, add-one id)
