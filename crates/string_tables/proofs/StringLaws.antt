-- The pass over the small table.
use mathlib.Core.Path.{◌≡◌, refl, sym, ◌∙◌, ap}
use mathlib.Core.Bool.{Bool, true, false, not}
use mathlib.Core.Logic.{inl, inr}
use mathlib.Core.List.{List}
use Prim.Native.Nat.{ℕ, ◌+◌, ◌*◌, ◌≤◌, ◌<◌}
use native.Mathlib.Numerals.{add-one}
use native.Mathlib.Omega.{arith}
use lib.Bits.{bit_or, or_add_and, and_le_l, and_le_r, or_lt}
use lib.Dec.{leb, ltb, eqb}
use lib.ListN.{length, get_or}
use borrow.Author.Tests.{leb-true, leb-false, le-leb, lt-leb, ltb-true, lt-ltb, le-ltb, eqb-true, not-true, not-false}
use Rattle.bits.specs.Choice.{both, implies, all_below}
use Rattle.bits.specs.Bytes.{word_at}
use Rattle.bits.proofs.TestLaws.{which, both_0, imp_use, all_next, sum_at}
use Rattle.bits.proofs.PassLaws.{all_both, all_same, pass_next, pass_stop}
use Rattle.format.specs.declared.Layout.{Layout}
use Rattle.format.specs.Table.{entry_offset, entry_length, overflow_entry, overflow_offset, overflow_length, if_set}
use Rattle.format.specs.Record.{value_of}
use Rattle.format.specs.Number.{number_from, entry_at}
use Rattle.format.specs.Entry as entry
use Rattle.format.proofs.EntryLaws.{set-bit}
use Rattle.image.specs.Sections.{strings_in, overflows_in, storage_in, over_at}
use Rattle.image.specs.Strings.{Pair, is_full, is_wide, over_before, place_of, locate, small_in, pair_in, over_in, place_at, size_of}
use Rattle.image.specs.Admission.{overflows_counted, overflows_numbered, strings_stored, strings_narrow, bytes_narrow}
use Rattle.image.proofs.PlaceLaws.{over_sum}
use Rattle.sections.specs.declared.Places.{Places}
use Rattle.sections.specs.Places.{Placed}
use Rattle.sections.proofs.SectionLaws.{Sectioned, sectioned}
use Rattle.string_tables.specs.Strings.{all_narrow, numbered, stored, entry_good, entry_good_at, strings_good}

-- ---- bytes gathered by or

or_below : (a b : ℕ) → leb (bit_or a b) 0x7F ≡ both (leb b 0x7F) (leb a 0x7F)
or_below a b =
    elim (which (leb b 0x7F)) [
      | inl u ↦ rw u (elim (which (leb a 0x7F)) [
        | inl t ↦ rw t (le-leb (bit_or a b) 0x7F
            (omega (arith, or_lt 7 a b (omega (arith, leb-true a 0x7F t)) (omega (arith, leb-true b 0x7F u)))))
        | inr f ↦ rw f (lt-leb (bit_or a b) 0x7F (omega (arith, or_add_and a b, and_le_r a b, leb-false a 0x7F f)))
      ])
      | inr f ↦ rw f (lt-leb (bit_or a b) 0x7F (omega (arith, or_add_and a b, and_le_l a b, leb-false b 0x7F f)))
    ]

pub narrow_none : (s : List ℕ) (at : ℕ) → leb 0 0x7F ≡ all_narrow s at 0
unfolding all_narrow all_below
narrow_none s at = refl

pub narrow_next : (s : List ℕ) (at i seen : ℕ) → leb seen 0x7F ≡ all_narrow s at i
    → leb (bit_or seen (get_or s (at + i) 0)) 0x7F ≡ all_narrow s at (i + 1)
unfolding all_narrow
narrow_next s at i seen h =
    or_below seen (get_or s (at + i) 0) ∙ rw h (sym (all_next (λ j. leb (get_or s (at + j) 0) 0x7F) i))

-- ---- the number of an overflow entry

module _ (overflows k x : ℕ) (r : Bool) (e : r ≡ is_full x) where
  pub not_over : not r ≡ true → true ≡ numbered overflows k x
  unfolding numbered
  not_over h = rw (← e, not-true r h)

  pub past_pairs : not r ≡ false → overflows ≤ k → false ≡ numbered overflows k x
  unfolding numbered
  past_pairs h g = rw (← e, not-false r h, le-ltb k overflows g)

  pub own_number : not r ≡ false → k < overflows → eqb (value_of entry_offset x) k ≡ numbered overflows k x
  unfolding numbered
  own_number h g = rw (← e, not-false r h, lt-ltb k overflows g)

-- a numbered overflow entry has its pair
pub in_pairs : (overflows k x : ℕ) → numbered overflows k x ≡ true → is_full x ≡ true → k < overflows
unfolding numbered
in_pairs overflows k x t f =
    ltb-true k overflows (both_0 (ltb k overflows) (eqb (value_of entry_offset x) k) (imp_use (is_full x) _ t f))

-- ---- the place of an entry

-- the flags of an entry
pub record Flags (x : ℕ) (wide full : Bool) : Type 0 where
  pub widths : wide ≡ is_wide x
  pub fills : full ≡ is_full x

-- an entry's offset and length, read from pair k of a table
pub record PairRead (s : List ℕ) (at k pair a n : ℕ) : Type 0 where
  pub place : pair ≡ entry_at at overflow_entry k
  pub offset : a ≡ number_from pair overflow_offset s
  pub count : n ≡ number_from pair overflow_length s

-- and from the entry itself
pub record OwnRead (x a n : ℕ) : Type 0 where
  pub offset : a ≡ value_of entry_offset x
  pub count : n ≡ value_of entry_length x

module _ (s : List ℕ) (at k x : ℕ) (w r : Bool) (f : Flags x w r) where
  pub pair_place : r ≡ true → (pair a n : ℕ) → PairRead s at k pair a n
      → record { wide = w; at = a; count = n } ≡ place_of (pair_in at s) k x
  unfolding place_of
  pair_place t pair a n h = rw (← f.fills, t, ← f.widths, h.offset, h.count, h.place)

  pub own_place : r ≡ false → (a n : ℕ) → OwnRead x a n → record { wide = w; at = a; count = n } ≡ place_of (pair_in at s) k x
  unfolding place_of
  own_place t a n h = rw (← f.fills, t, ← f.widths, h.offset, h.count)

-- the pairs of an image's overflow table
over_pairs : (l : Layout) (s : List ℕ) → over_in l s ≡ pair_in (over_at l s) s
unfolding over_in
over_pairs l s = refl

both_true : (a : Bool) → both a true ≡ a
both_true true = refl
both_true false = refl

both_no : (a : Bool) → both a false ≡ false
both_no true = refl
both_no false = refl

-- ---- the pass is the four tests of the definitions

pub count_none : (w : ℕ → ℕ) → ◌≡◌ {A = ℕ} 0 (over_before w 0)
unfolding over_before
count_none w = refl

-- an overflow entry is counted: there are fewer before it than before any later one
count_mono : (w : ℕ → ℕ) (i n : ℕ) → i < n → over_before w i + entry.bit (is_full (w i)) ≤ over_before w n
count_mono w i n h = rw (over_sum w i, over_sum w n) (sum_at (λ j. entry.bit (is_full (w j))) i n h)

-- where as many entries overflow as there are pairs, each has its pair
module _ (l : Layout) (s : List ℕ) (c : over_before (small_in l s) (strings_in s) ≡ overflows_in s) where
  numbered_in : (i : ℕ) → i < strings_in s → numbered (overflows_in s) (over_before (small_in l s) i) (small_in l s i)
      ≡ implies (is_full (small_in l s i)) (eqb (value_of entry_offset (small_in l s i)) (over_before (small_in l s) i))
  unfolding numbered
  numbered_in i h = go (is_full (small_in l s i)) (count_mono (small_in l s) i (strings_in s) h)
    where
      go : (b : Bool) → over_before (small_in l s) i + entry.bit b ≤ over_before (small_in l s) (strings_in s)
          → implies b (both (ltb (over_before (small_in l s) i) (overflows_in s))
          (eqb (value_of entry_offset (small_in l s i)) (over_before (small_in l s) i)))
          ≡ implies b (eqb (value_of entry_offset (small_in l s i)) (over_before (small_in l s) i))
      go true k = rw (lt-ltb (over_before (small_in l s) i) (overflows_in s) (omega arith))
      go false k = refl

  entries_are : all_below (strings_in s) (entry_good_at l s)
      ≡ both (overflows_numbered l s) (both (strings_stored l s) (strings_narrow l s))
  unfolding entry_good_at entry_good stored overflows_numbered strings_stored strings_narrow place_at locate
  entries_are =
      all_both (λ i. numbered (overflows_in s) (over_before (small_in l s) i) (small_in l s i)) (λ i. stored l s (place_at l s i))
      (strings_in s)
      ∙ ap (λ (b : Bool). both b (all_below (strings_in s) (λ i. stored l s (place_at l s i))))
      (all_same _ (λ i. implies (is_full (small_in l s i)) (eqb (value_of entry_offset (small_in l s i)) (over_before (small_in l s) i)))
      (strings_in s) numbered_in)
      ∙ ap (λ (b : Bool). both (overflows_numbered l s) b)
      (all_both (λ i. leb ((place_at l s i).at + size_of (place_at l s i)) (storage_in s)) (λ i. bytes_narrow l s (place_at l s i))
      (strings_in s))

all_strings : (l : Layout) (s : List ℕ)
    → both (all_below (strings_in s) (entry_good_at l s)) (eqb (over_before (small_in l s) (strings_in s)) (overflows_in s))
    ≡ strings_good l s
unfolding strings_good overflows_counted
all_strings l s = go (eqb (over_before (small_in l s) (strings_in s)) (overflows_in s)) refl
  where
    go : (b : Bool) → eqb (over_before (small_in l s) (strings_in s)) (overflows_in s) ≡ b
        → both (all_below (strings_in s) (entry_good_at l s)) b ≡ both b
        (both (overflows_numbered l s) (both (strings_stored l s) (strings_narrow l s)))
    go true e = rw (entries_are l s (eqb-true _ _ e)) (both_true _)
    go false e = both_no (all_below (strings_in s) (entry_good_at l s))

module _ (p : Places) (s : List ℕ) (h : Placed p s) where
  pub image_place : (k x : ℕ) → place_of (pair_in p.over_at s) k x ≡ place_of (over_in p.layout s) k x
  image_place k x =
      ap (λ (v : ℕ → Pair). place_of v k x)
      (ap (λ (at : ℕ). pair_in at s) (sectioned p s h).over_from ∙ sym (over_pairs p.layout s))

  pub small_word : (i x a : ℕ) → x ≡ word_at s a → a ≡ p.small_at + i * 4 → x ≡ small_in p.layout s i
  unfolding small_in
  small_word i x a e f = e ∙ ap (λ (b : ℕ). word_at s b) (f ∙ ap (λ (b : ℕ). b + i * 4) (sectioned p s h).small_from)

-- ---- a string in storage

-- a string of n bytes ends in storage
pub record InStorage (p : Places) (s : List ℕ) (q : entry.Place) (n : ℕ) : Type 0 where
  pub placed : Placed p s
  pub size : n ≡ size_of q
  pub ends : q.at + n ≤ p.storage_size

module _ (p : Places) (s : List ℕ) (q : entry.Place) (n : ℕ) where
  pub leaves_storage : Placed p s → n ≡ size_of q → p.storage_size < q.at + n → false ≡ stored p.layout s q
  unfolding stored
  leaves_storage h e g = rw (← e, ← (sectioned p s h).storage, lt-leb (q.at + n) p.storage_size g)

  module _ (h : InStorage p s q n) where
    pub wide_stored : q.wide ≡ true → true ≡ stored p.layout s q
    unfolding stored bytes_narrow
    wide_stored t = rw (← h.size, ← (sectioned p s h.placed).storage, le-leb (q.at + n) p.storage_size h.ends, t)

    pub narrow_stored : q.wide ≡ false → (r : Bool) → r ≡ all_narrow s (p.storage_at + q.at) q.count
        → r ≡ stored p.layout s q
    unfolding stored bytes_narrow all_narrow
    narrow_stored t r f =
        let z : Sectioned p s = sectioned p s h.placed in
        rw (← h.size, ← z.storage, le-leb (q.at + n) p.storage_size h.ends, t, ← z.storage_from, f)

-- ---- an entry

-- entry x has its number, with k overflow entries before it
pub record Numbered (p : Places) (s : List ℕ) (k x : ℕ) (r : Bool) : Type 0 where
  pub placed : Placed p s
  pub tested : r ≡ numbered p.overflows k x
  pub good : not r ≡ false

module _ (p : Places) (s : List ℕ) (k x : ℕ) (r : Bool) where
  pub entry_misnumbered : Placed p s → r ≡ numbered p.overflows k x → not r ≡ true → false ≡ entry_good p.layout s k x
  unfolding entry_good
  entry_misnumbered h e g = rw (← (sectioned p s h).overflows, ← e, not-true r g)

  module _ (h : Numbered p s k x r) where
    pub entry-numbered : (q : entry.Place) (t : Bool) → q ≡ place_of (pair_in p.over_at s) k x → t ≡ stored p.layout s q
        → t ≡ entry_good p.layout s k x
    unfolding entry_good
    entry-numbered q t f d =
        rw (← (sectioned p s h.placed).overflows, ← h.tested, not-false r h.good, ← image_place p s h.placed k x, ← f, d)

    pub has_pair : is_full x ≡ true → p.over_at + k * 8 + 8 ≤ length s
    has_pair f =
        let z : Sectioned p s = sectioned p s h.placed in
        omega (arith, in_pairs p.overflows k x (sym h.tested ∙ not-false r h.good) f)

-- ---- the walk

-- the first i entries are good, and k of them overflow
pub record Walked (p : Places) (s : List ℕ) (i k : ℕ) : Type 0 where
  pub placed : Placed p s
  pub count : k ≡ over_before (small_in p.layout s) i
  pub good : all_below i (entry_good_at p.layout s) ≡ true

-- entry i is next: its word x is read at a
pub record EntryRead (p : Places) (s : List ℕ) (i k x a : ℕ) : Type 0 where
  pub walked : Walked p s i k
  pub known : i < p.strings
  pub word : x ≡ word_at s a
  pub place : a ≡ p.small_at + i * 4

module _ (p : Places) (s : List ℕ) (i k x a : ℕ) (h : EntryRead p s i k x a) where
  word_is : x ≡ small_in p.layout s i
  word_is = small_word p s h.walked.placed i x a h.word h.place

  walked : entry_good p.layout s k x ≡ entry_good_at p.layout s i
  unfolding entry_good_at
  walked = rw (h.walked.count, word_is)

  -- one more entry, whose test answered r
  module _ (r : Bool) (d : r ≡ entry_good p.layout s k x) where
    pub entries_next : not r ≡ false → all_below (i + 1) (entry_good_at p.layout s) ≡ true
    entries_next z = pass_next (entry_good_at p.layout s) i r (d ∙ walked) z h.walked.good

    pub entry_fails : not r ≡ true → false ≡ strings_good p.layout s
    entry_fails z =
        let l : i < strings_in s = omega (arith, h.known, (sectioned p s h.walked.placed).strings) in
        let b : false ≡ all_below (strings_in s) (entry_good_at p.layout s)
        = pass_stop (entry_good_at p.layout s) (strings_in s) i r l (d ∙ walked) z in
        ap (λ (a : Bool). both a (eqb (over_before (small_in p.layout s) (strings_in s)) (overflows_in s))) b
        ∙ all_strings p.layout s

  pub count_next : (r : Bool) (b : ℕ) → r ≡ is_full x → b ≡ if_set r 1 → k + b ≡ over_before (small_in p.layout s) (i + 1)
  unfolding over_before
  count_next r b d z =
      rw (add-one, ← word_is, ← d, z, h.walked.count) (ap (λ (m : ℕ). over_before (small_in p.layout s) i + m) (set-bit r))

pub entries_end : (p : Places) (s : List ℕ) (i k : ℕ) → Walked p s i k → i ≡ p.strings
    → eqb k p.overflows ≡ strings_good p.layout s
entries_end p s i k h e =
    let z : Sectioned p s = sectioned p s h.placed in
    let b : i ≡ strings_in s = e ∙ z.strings in
    rw (h.count, z.overflows, b) (ap (λ (y : Bool). both y (eqb (over_before (small_in p.layout s) (strings_in s)) (overflows_in s)))
    (sym (rw b at h.good)) ∙ all_strings p.layout s)
