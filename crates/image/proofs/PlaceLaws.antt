-- Places in an image: its sections stand one behind the other, and what an admitted image says of itself lies in it.
use mathlib.Core.Path.{◌≡◌, refl, ap}
use mathlib.Core.Bool.{true, false}
use mathlib.Core.List.{List}
use Prim.Native.Nat.{ℕ, zero, suc, ◌+◌, ◌*◌, ◌^◌, ◌≤◌, ◌<◌}
use native.Mathlib.Nat.{suc-mul, mul-le-mul_right}
use native.Mathlib.Omega.{arith}
use lib.ListN.{length}
use Rattle.bits.specs.Choice.{sum_below}
use Rattle.bits.proofs.TestLaws.{sum_at}
use Rattle.format.specs.declared.Layout.{Layout}
use Rattle.format.specs.declared.Layout.TheVariants.{Modern, Legacy}
use Rattle.format.specs.Table as table
use Rattle.format.specs.Entry.{bit}
use Rattle.footer.specs.Footer.{footer_length}
use Rattle.image.specs.Sections.{functions_in, kinds_in, identifiers_in, strings_in, overflows_in, storage_in, record_at, kinds_at}
use Rattle.image.specs.Sections.{hashes_at, small_at, over_at, storage_at, tail_at}
use Rattle.image.specs.Strings.{is_full, over_before, small_in, place_at, size_of}
use Rattle.image.specs.Admitted.{Admitted}

-- ---- sections

-- the records start behind the header, in every layout
pub records_at : (l : Layout) → (table.record_row l).at ≡ table.header_length
records_at Modern = refl
records_at (Legacy big sources) = refl

-- the debug offset is a word
pub debug_wide : (l : Layout) → (table.debug_row l).width ≡ 4
debug_wide Modern = refl
debug_wide (Legacy big sources) = refl

pub debug-fits : (l : Layout) (x : ℕ) → x < 2 ^ 32 → x < 256 ^ (table.debug_row l).width
debug-fits l x h = rw (debug_wide l) h

-- it stands in the header
pub debug-at : (l : Layout) → table.place_in l (table.debug_row l) + (table.debug_row l).width ≤ table.header_length
debug-at Modern = omega arith
debug-at (Legacy true true) = omega arith
debug-at (Legacy true false) = omega arith
debug-at (Legacy false true) = omega arith
debug-at (Legacy false false) = omega arith

-- behind the words of the strings
pub debug_past_lem : (l : Layout) → (table.storage_size).at + (table.storage_size).width ≤ table.place_in l (table.debug_row l)
debug_past_lem Modern = omega arith
debug_past_lem (Legacy true true) = omega arith
debug_past_lem (Legacy true false) = omega arith
debug_past_lem (Legacy false true) = omega arith
debug_past_lem (Legacy false false) = omega arith

-- no section starts before the one that it follows, and storage ends before the tail
pub record Ordered (l : Layout) (s : List ℕ) : Type 0 where
  pub kinds : table.header_length ≤ kinds_at l s
  pub hashes : kinds_at l s ≤ hashes_at l s
  pub small : hashes_at l s ≤ small_at l s
  pub over : small_at l s ≤ over_at l s
  pub storage : over_at l s ≤ storage_at l s
  pub tail : storage_at l s + storage_in s ≤ tail_at l s

-- entry i of n, of w bytes each, ends at or before the end of all
entry_in : (i n at w : ℕ) → i < n → at + i * w + w ≤ at + n * w
entry_in i n at w h = omega (arith, suc-mul i w, mul-le-mul_right w h)

module _ (l : Layout) (s : List ℕ) where
  pub ordered : Ordered l s
  unfolding kinds_at hashes_at small_at over_at storage_at tail_at
  ordered = record {
    kinds = omega (arith, records_at l);
    hashes = omega arith;
    small = omega arith;
    over = omega arith;
    storage = omega
        arith;
    tail = omega arith;
  }

  -- ---- an entry of a section ends before the next section starts

  pub record_in_lem : (i : ℕ) → i < functions_in s → record_at l i + (table.record_row l).width ≤ kinds_at l s
  unfolding kinds_at
  record_in_lem i h = entry_in i (functions_in s) (table.record_row l).at (table.record_row l).width h

  pub kind_in_lem : (k : ℕ) → k < kinds_in s → kinds_at l s + k * (table.kind_entry).width + (table.kind_entry).width ≤ hashes_at l s
  unfolding hashes_at
  kind_in_lem k h = omega arith

  pub hash_in_lem : (r : ℕ) → r < identifiers_in s → hashes_at l s + r * (table.hash_entry).width + (table.hash_entry).width ≤ small_at l s
  unfolding small_at
  hash_in_lem r h = omega arith

  pub small_in_lem : (i : ℕ) → i < strings_in s → small_at l s + i * (table.small_entry).width + (table.small_entry).width ≤ over_at l s
  unfolding over_at
  small_in_lem i h = omega arith

  pub pair_in_lem : (k : ℕ) → k < overflows_in s
      → over_at l s + k * (table.overflow_entry).width + (table.overflow_entry).width ≤ storage_at l s
  unfolding storage_at
  pair_in_lem k h = omega arith

-- ---- overflow entries, counted in id order

pub over_sum : (w : ℕ → ℕ) (i : ℕ) → over_before w i ≡ sum_below i (λ j. bit (is_full (w j)))
unfolding over_before sum_below
over_sum w zero = refl
over_sum w (suc i) = rw (over_sum w i)

-- an entry that overflows is one of those that are counted after it
pub over_lt : (w : ℕ → ℕ) (i n : ℕ) → i < n → is_full (w i) ≡ true → over_before w i < over_before w n
over_lt w i n h f =
    let b : bit (is_full (w i)) ≡ 1 = ap bit f in
    rw (over_sum w i, over_sum w n) (omega (arith, sum_at (λ j. bit (is_full (w j))) i n h))

-- ---- an admitted image

-- each section, by its count, is no longer than the image
pub record Counted (l : Layout) (s : List ℕ) : Type 0 where
  pub functions : functions_in s * (table.record_row l).width ≤ length s
  pub kinds : kinds_in s * (table.kind_entry).width ≤ length s
  pub identifiers : identifiers_in s * (table.hash_entry).width ≤ length s
  pub strings : strings_in s * (table.small_entry).width ≤ length s
  pub overflows : overflows_in s * (table.overflow_entry).width ≤ length s
  pub storage : storage_in s ≤ length s

module _ {l : Layout} {s : List ℕ} (a : Admitted l s) where
  pub least_length_lem : table.header_length + footer_length ≤ length s
  least_length_lem = a.least

  pub counted : Counted l s
  unfolding kinds_at hashes_at small_at over_at storage_at
  counted =
      let room : tail_at l s + footer_length ≤ length s = a.room in
      let tail : storage_at l s + storage_in s ≤ tail_at l s = (ordered l s).tail in
      record {
        functions = omega arith;
        kinds = omega arith;
        identifiers = omega arith;
        strings = omega arith;
        overflows = omega arith;
        storage = omega arith;
      }

  -- string i lies between the start of storage and the tail
  pub string-in : (i : ℕ) → i < strings_in s → storage_at l s + (place_at l s i).at + size_of (place_at l s i) ≤ tail_at l s
  string-in i h = omega (arith, a.stored i h, (ordered l s).tail)

  -- the overflow pair of an entry that overflows is one of the table's
  pub overflow_in : (i : ℕ) → i < strings_in s → is_full (small_in l s i) ≡ true → over_before (small_in l s) i < overflows_in s
  overflow_in i h f = rw (← a.overflows) (over_lt (small_in l s) i (strings_in s) h f)
