-- The string tables of places are read back as those places.
use mathlib.Core.Path.{◌≡◌, refl, ap, sym, ◌∙◌}
use mathlib.Core.Bool.{Bool, true, false}
use mathlib.Core.Logic.{inl, inr}
use mathlib.Core.List.{List, [], ◌++◌}
use Prim.Native.Nat.{ℕ, zero, suc, ◌+◌, ◌*◌, ◌^◌, ◌≤◌, ◌<◌}
use native.Mathlib.Nat.{not-suc-le-zero}
use native.Mathlib.Omega.{arith}
use borrow.Author.Tests.{ne_eqb}
use lib.Dec.{eqb}
use lib.ListN.{length, replicate, length-append, get_or-append}
use lib.Seq.{length-sets}
use Rattle.bits.specs.Choice.{pick, sum_below}
use Rattle.bits.proofs.TestLaws.{which, below, sum_at}
use Rattle.bits.proofs.ListLaws.{AllBelow, Lies, get_d_past, below_nil, below_append, below_zeros, below_bytes_of}
use Rattle.bits.proofs.ByteLaws.{length-bytes_of}
use Rattle.format.specs.Table.{entry_offset, entry_length, small_entry, overflow_entry, overflow_offset, overflow_length}
use Rattle.format.specs.Record.{value_of}
use Rattle.format.specs.Number.{number_held, bytes_for, with_number}
use Rattle.format.specs.Entry.{Place, bit, entry, far, full, is_over, small_word}
use Rattle.format.proofs.EntryLaws.{entry_length_lem, entry_offset_lem, entry_wide_lem, not_over}
use Rattle.format.proofs.NumberLaws.{number_put, number_kept, number_below}
use Rattle.image.specs.Strings.{Pair, is_full, is_wide, over_before, place_of, locate}
use Rattle.edits.specs.Rebuild.{smalls, pair_of, pair_if_over, pairs, overs}
use Rattle.image.proofs.PlaceLaws.{over_lt}

-- ---- one entry back to its place

bit_back : (b : Bool) → eqb (bit b) 1 ≡ b
bit_back true = refl
bit_back false = refl

-- an entry is full exactly where its string goes to the overflow table
pub full_word : (k : ℕ) (p : Place) → is_full (small_word k p) ≡ is_over p
unfolding small_word
full_word k p = go (is_over p) refl
  where
    go : (b : Bool) → is_over p ≡ b → is_full (pick b (entry p.wide k full) (entry p.wide p.at p.count)) ≡ b
    go true o = rw (entry_length_lem p.wide k full (omega arith))
    go false o =
        let (a, c) = not_over p o in
        rw (entry_length_lem p.wide p.at p.count (omega arith)) (ne_eqb p.count full (omega arith))

-- and then has the overflow index in its offset
pub full_offset : (k : ℕ) (p : Place) → is_over p ≡ true → k < far → value_of entry_offset (small_word k p) ≡ k
unfolding small_word
full_offset k p o h = rw o (entry_offset_lem p.wide k full h)

decode_over : (v : ℕ → Pair) (k : ℕ) (p : Place) → is_over p ≡ true → (v k).at ≡ p.at → (v k).count ≡ p.count
    → place_of v k (small_word k p) ≡ p
unfolding place_of small_word
decode_over v k p o e f = rw (o, entry_length_lem p.wide k full (omega arith), entry_wide_lem p.wide k full, bit_back p.wide, e, f)

decode_small : (v : ℕ → Pair) (k : ℕ) (p : Place) → is_over p ≡ false → place_of v k (small_word k p) ≡ p
unfolding place_of small_word
decode_small v k p o =
    let (a, c) = not_over p o in
    let n : eqb p.count full ≡ false = ne_eqb p.count full (omega arith) in
    rw (
      o,
      entry_length_lem p.wide p.at p.count (omega arith),
      n,
      entry_offset_lem p.wide p.at p.count a,
      entry_wide_lem p.wide p.at p.count,
      bit_back p.wide,
    )

-- ---- one pair back to its place

pub length_pair : (p : Place) → length (pair_of p) ≡ overflow_entry.width
unfolding pair_of
length_pair p = simp length-sets

module _ (p : Place) where
  abbrev blank : List ℕ
  blank = replicate overflow_entry.width 0

  pub pair_offset : p.at < 2 ^ 32 → number_held overflow_offset (pair_of p) ≡ p.at
  unfolding pair_of
  pair_offset h =
      number_kept overflow_length overflow_offset p.count (with_number overflow_offset p.at blank) (omega arith)
      ∙ number_put overflow_offset p.at blank (omega arith) h

  pub pair_length : p.count < 2 ^ 32 → number_held overflow_length (pair_of p) ≡ p.count
  unfolding pair_of
  pair_length h = number_put overflow_length p.count (with_number overflow_offset p.at blank) (simp length-sets (omega arith)) h

  pub pair_below : AllBelow 256 (pair_of p)
  unfolding pair_of
  pair_below =
      number_below overflow_length p.count (with_number overflow_offset p.at blank)
      (number_below overflow_offset p.at blank (below_zeros 256 (omega arith) overflow_entry.width))

-- ---- the tables of n places

-- the small entries w and the pairs v that a reader finds are those of n places
pub record TablesRead (p : ℕ → Place) (n : ℕ) (w : ℕ → ℕ) (v : ℕ → Pair) : Type 0 where
  pub small : (i : ℕ) → i < n → w i ≡ small_word (overs p i) (p i)
  pub pair : (i : ℕ) → i < n → is_over (p i) ≡ true → ((v (overs p i)).at ≡ (p i).at) × ((v (overs p i)).count ≡ (p i).count)
  pub few : overs p n ≤ far

module _ (p : ℕ → Place) where
  abbrev small : ℕ → List ℕ
  small i = bytes_for small_entry (small_word (overs p i) (p i))

  -- one string more
  pub smalls_next : (i : ℕ) → smalls p (suc i) ≡ smalls p i ++ bytes_for small_entry (small_word (overs p i) (p i))
  unfolding smalls
  smalls_next i = refl

  pub pairs_next : (i : ℕ) → pairs p (suc i) ≡ pairs p i ++ pair_if_over (p i)
  unfolding pairs
  pairs_next i = refl

  pub overs-none : overs p 0 ≡ 0
  unfolding overs sum_below
  overs-none = refl

  pub overs_next : (i : ℕ) → overs p (suc i) ≡ overs p i + bit (is_over (p i))
  unfolding overs sum_below
  overs_next i = refl

  pub overs-room : (i n : ℕ) → i < n → overs p i + bit (is_over (p i)) ≤ overs p n
  unfolding overs
  overs-room i n h = sum_at (λ j. bit (is_over (p j))) i n h

  pub overs-lt : (i n : ℕ) → i < n → is_over (p i) ≡ true → overs p i < overs p n
  overs-lt i n h o = let b : bit (is_over (p i)) ≡ 1 = ap bit o in omega (arith, overs-room i n h)

  -- the sizes of the tables
  pub size-smalls : (n : ℕ) → length (smalls p n) ≡ n * small_entry.width
  unfolding smalls
  size-smalls zero = refl
  size-smalls (suc n) = length-append (smalls p n) (small n) ∙ rw (size-smalls n, length-bytes_of) (omega arith)

  pub size_pair : (i : ℕ) → length (pair_if_over (p i)) ≡ bit (is_over (p i)) * overflow_entry.width
  size_pair i = go (is_over (p i))
    where
      go : (b : Bool) → length (pick b (pair_of (p i)) []) ≡ bit b * overflow_entry.width
      go true = length_pair (p i)
      go false = refl

  pub size-pairs : (n : ℕ) → length (pairs p n) ≡ overs p n * overflow_entry.width
  unfolding pairs
  size-pairs zero = rw overs-none
  size-pairs (suc n) = length-append (pairs p n) (pair_if_over (p n)) ∙ rw (overs_next n, size-pairs n, size_pair n) (omega arith)

  -- they are bytes
  pub smalls_below : (n : ℕ) → AllBelow 256 (smalls p n)
  unfolding smalls
  smalls_below zero = below_nil 256 (omega arith)
  smalls_below (suc n) =
      below_append 256 (omega arith) (smalls p n) (small n) (smalls_below n) (below_bytes_of 4 (small_word (overs p n) (p n)))

  pub pairs_below : (n : ℕ) → AllBelow 256 (pairs p n)
  unfolding pairs
  pairs_below zero = below_nil 256 (omega arith)
  pairs_below (suc n) = below_append 256 (omega arith) (pairs p n) (pair_if_over (p n)) (pairs_below n) (go (is_over (p n)))
    where
      go : (b : Bool) → AllBelow 256 (pick b (pair_of (p n)) [])
      go true = pair_below (p n)
      go false = below_nil 256 (omega arith)

  -- each entry stands at its place, and so does each pair
  pub small_at : (n i : ℕ) → i < n → Lies (smalls p n) (i * small_entry.width) (small i)
  unfolding smalls
  small_at zero i h j k = absurd (not-suc-le-zero h)
  small_at (suc n) i h j k =
      elim (below i n h) [
        | inl e ↦ rw e (get_d_past (smalls p n) (small n) (n * 4) j (size-smalls n))
        | inr g ↦
            let b : j < 4 = rw length-bytes_of at k in
            get_or-append (smalls p n) (small n) 0 (i * 4 + j) (omega (arith, size-smalls n)) ∙ small_at n i g j k
      ]

  pub pair_at : (n i : ℕ) → i < n → is_over (p i) ≡ true → Lies (pairs p n) (overs p i * overflow_entry.width) (pair_of (p i))
  unfolding pairs
  pair_at zero i h o j k = absurd (not-suc-le-zero h)
  pair_at (suc n) i h o j k =
      elim (below i n h) [
        | inl e ↦
            let t : is_over (p n) ≡ true = rw e at o in
            rw (e, t) (get_d_past (pairs p n) (pair_of (p n)) (overs p n * 8) j (size-pairs n))
        | inr g ↦
            let b : j < 8 = rw length_pair at k in
            get_or-append (pairs p n) (pair_if_over (p n)) 0 (overs p i * 8 + j) (omega (arith, size-pairs n, overs-lt i n g o))
            ∙ pair_at n i g o j k
      ]

  module _ (n : ℕ) (w : ℕ → ℕ) (v : ℕ → Pair) (wr : TablesRead p n w v) where
    pub before_is : (i : ℕ) → i ≤ n → over_before w i ≡ overs p i
    unfolding over_before
    before_is zero h = sym overs-none
    before_is (suc i) h = rw (before_is i (omega arith), overs_next i, wr.small i h, full_word (overs p i) (p i))

    -- what is written for places is read back as those places
    pub located : (i : ℕ) → i < n → locate w v i ≡ p i
    unfolding locate
    located i h =
        rw (before_is i (omega arith), wr.small i h)
        (elim (which (is_over (p i))) [
          | inl o ↦ decode_over v (overs p i) (p i) o (wr.pair i h o).0 (wr.pair i h o).1
          | inr o ↦ decode_small v (overs p i) (p i) o
        ])

    -- an entry is full exactly where 01's tests say so, and then has its index
    pub full_is : (i : ℕ) → i < n → is_full (w i) ≡ is_over (p i)
    full_is i h = rw (wr.small i h) (full_word (overs p i) (p i))

    pub index_is : (i : ℕ) → i < n → is_full (w i) ≡ true → value_of entry_offset (w i) ≡ over_before w i
    index_is i h t =
        let o : is_over (p i) ≡ true = sym (full_is i h) ∙ t in
        rw (before_is i (omega arith), wr.small i h) (full_offset (overs p i) (p i) o (omega (arith, wr.few, overs-lt i n h o)))

-- ---- locating hangs only on the words that it reads

pub over_ext : (w w' : ℕ → ℕ) (i : ℕ) → ((j : ℕ) → j < i → w j ≡ w' j) → over_before w i ≡ over_before w' i
unfolding over_before
over_ext w w' zero h = refl
over_ext w w' (suc i) h = rw (over_ext w w' i (λ j k. h j (omega arith)), h i (omega arith))

place_ext : (v v' : ℕ → Pair) (k x : ℕ) → (is_full x ≡ true → v k ≡ v' k) → place_of v k x ≡ place_of v' k x
unfolding place_of
place_ext v v' k x h = go (is_full x) h (record { wide = is_wide x; at = value_of entry_offset x; count = value_of entry_length x })
  where
    go : (b : Bool) → (b ≡ true → v k ≡ v' k)
        → (own : Place)
        → pick b (record { wide = is_wide x; at = (v k).at; count = (v k).count }) own
        ≡ pick b (record { wide = is_wide x; at = (v' k).at; count = (v' k).count }) own
    go true h own = ap (λ (q : Pair). record { wide = is_wide x; at = q.at; count = q.count }) (h refl)
    go false h own = refl

pub locate_ext : (w w' : ℕ → ℕ) (v v' : ℕ → Pair) (n i : ℕ) → i < n → ((j : ℕ) → j < n → w j ≡ w' j)
    → ((k : ℕ) → k < over_before w n → v k ≡ v' k) → locate w v i ≡ locate w' v' i
unfolding locate
locate_ext w w' v v' n i h f g =
    rw (← over_ext w w' i (λ j k. f j (omega arith)), ← f i h)
    (place_ext v v' (over_before w i) (w i) (λ b. g (over_before w i) (over_lt w i n h b)))
