-- Strings are read from an image whose tables and storage are those of a packing: a rebuilt one, or one made of its parts.
use mathlib.Core.Path.{◌≡◌, ap, sym, ◌∙◌}
use mathlib.Core.Bool.{Bool, true, false}
use mathlib.Core.List.{List, ◌++◌}
use Prim.Native.Nat.{ℕ, ◌+◌, ◌*◌, ◌/◌, ◌^◌, ◌≤◌, ◌<◌}
use native.Mathlib.Nat.{add_assoc}
use native.Mathlib.Omega.{arith}
use lib.ListN.{length, get_or, length-append, get_or-append}
use Rattle.bits.specs.Bytes.{bytes_at}
use Rattle.bits.proofs.ListLaws.{Lies, get_d_past}
use Rattle.bits.proofs.ByteLaws.{length-bytes_of, bytes_at-is, number_lies, number_at_lies}
use Rattle.format.specs.declared.Layout.{Layout}
use Rattle.format.specs.Table as table
use Rattle.format.specs.Record.{value_of}
use Rattle.format.specs.Entry.{Place, far, is_over, small_word}
use Rattle.format.proofs.EntryLaws.{small-lt}
use Rattle.footer.specs.Finalize.{size_limit}
use Rattle.image.specs.Sections.{strings_in, overflows_in, storage_in, small_at, over_at, storage_at}
use Rattle.image.specs.Strings.{is_full, over_before, small_in, over_in, place_at, unit_size, size_of, Str, string_of}
use Rattle.edits.specs.Packing.{count_of, Packed, Carries}
use Rattle.edits.specs.Rebuild.{smalls, pair_of, pairs, overs, region}
use Rattle.edits.proofs.TableLaws.{length_pair, pair_offset, pair_length, overs-lt, size-smalls, size-pairs}
use Rattle.edits.proofs.TableLaws.{small_at as small_entry_at, pair_at}
use Rattle.edits.proofs.TableLaws.{TablesRead, located, before_is, full_is, index_is}
use Rattle.edits.proofs.RebuildLaws.{Valid}

-- ---- sizes

count_le : (t : Str) → count_of t ≤ length t.bytes
count_le t = go t.wide
  where
    go : (b : Bool) → length t.bytes / unit_size b ≤ length t.bytes
    go true = omega arith
    go false = omega arith

pub length-region : (n : ℕ) (q : Packed) → length (region n q)
    ≡ n * (table.small_entry).width + (overs q.place n * (table.overflow_entry).width + length q.store)
unfolding region
length-region n q = simp (length-append, size-smalls, size-pairs)

-- where s has its narrow strings, t has bytes below 0x80
abbrev pub NarrowIn : Layout → List ℕ → List ℕ → Type 0
NarrowIn l s t =
    (i : ℕ) → i < strings_in s → (place_at l s i).wide ≡ false → (j : ℕ) → j < (place_at l s i).count
    → get_or t (storage_at l s + (place_at l s i).at + j) 0 < 0x80

-- ---- an image with packed strings

-- tables and storage are those of packed strings, each of which stands at its place and may stand in an image
pub record Bears (l : Layout) (f : ℕ → Str) (q : Packed) (s : List ℕ) : Type 0 where
  pub overflows : overflows_in s ≡ overs q.place (strings_in s)
  pub storage : storage_in s ≡ length q.store
  pub bytes : Lies s (small_at l s) (region (strings_in s) q)
  pub limit : length (region (strings_in s) q) ≤ size_limit
  pub carries : Carries (strings_in s) f q
  pub strings : (i : ℕ) → i < strings_in s → Valid (f i)

module _ (l : Layout) (f : ℕ → Str) (q : Packed) (s : List ℕ) (ok : Bears l f q s) where
  abbrev n : ℕ
  n = strings_in s

  abbrev ov : ℕ
  ov = overs q.place n

  -- what is not over the limit fits its words
  few : ov ≤ far
  few = omega (arith, ok.limit, length-region n q)

  store_fits : length q.store < 2 ^ 32
  store_fits = omega (arith, ok.limit, length-region n q)

  pub read_storage : storage_at l s ≡ small_at l s + n * 4 + ov * 8
  unfolding storage_at over_at
  read_storage = rw ok.overflows

  -- ---- the tables, and storage

  abbrev ws : List ℕ
  ws = smalls q.place n

  abbrev vs : List ℕ
  vs = pairs q.place n

  small_lies : Lies s (small_at l s) ws
  unfolding region
  small_lies j h =
      ok.bytes j (rw (length-region n q) (omega (arith, size-smalls q.place n))) ∙ get_or-append ws (vs ++ q.store) 0 j h

  rest_lies : Lies s (small_at l s + n * 4) (vs ++ q.store)
  unfolding region
  rest_lies j h =
      let m : length ws ≡ n * 4 = size-smalls q.place n in
      rw add_assoc (ok.bytes (n * 4 + j) (omega (arith, length-append ws (vs ++ q.store))) ∙ get_d_past ws (vs ++ q.store) (n * 4) j m)

  pub read_stored : Lies s (storage_at l s) q.store
  read_stored j h =
      rw (read_storage, add_assoc)
      (rest_lies (ov * 8 + j) (rw (length-append vs q.store) (omega (arith, size-pairs q.place n)))
      ∙ get_d_past vs q.store (ov * 8) j (size-pairs q.place n))

  -- small entry i, and its pair if it has one

  small_word_lem : (i : ℕ) → i < n → small_in l s i ≡ small_word (overs q.place i) (q.place i)
  unfolding small_in
  small_word_lem i h =
      number_lies s (small_at l s + i * 4) 4 (small_word (overs q.place i) (q.place i))
      (λ j k.
      let b : j < 4 = rw length-bytes_of at k in
      rw add_assoc (small_lies (i * 4 + j) (rw (size-smalls q.place n) (omega arith)) ∙ small_entry_at q.place n i h j k))
      (small-lt (overs q.place i) (q.place i))

  pair_lies : (i : ℕ) → i < n → is_over (q.place i) ≡ true → Lies s (over_at l s + overs q.place i * 8) (pair_of (q.place i))
  unfolding over_at
  pair_lies i h o j k =
      let b : j < 8 = rw length_pair at k in
      let m : overs q.place i < ov = overs-lt q.place i n h o in
      let z : overs q.place i * 8 + j < length vs = rw (size-pairs q.place n) (omega arith) in
      rw add_assoc
      (rest_lies (overs q.place i * 8 + j) (rw (length-append vs q.store) (omega arith))
      ∙ get_or-append vs q.store 0 (overs q.place i * 8 + j) z ∙ pair_at q.place n i h o j k)

  pair_word : (i : ℕ) → i < n → is_over (q.place i) ≡ true
      → ((over_in l s (overs q.place i)).at ≡ (q.place i).at) × ((over_in l s (overs q.place i)).count ≡ (q.place i).count)
  unfolding over_in
  pair_word i h o =
      let c = ok.carries.string i h in
      let p : Place = q.place i in
      let e : length (pair_of p) ≡ 8 = length_pair p in
      let at : ℕ = over_at l s + overs q.place i * 8 in (
        number_at_lies s (pair_of p) at 0 4 (pair_lies i h o) (omega arith) ∙ pair_offset p (omega (arith, c.within, store_fits)),
        number_at_lies s (pair_of p) at 4 4 (pair_lies i h o) (omega arith)
            ∙ pair_length p (omega (arith, c.within, c.count, store_fits, count_le (f i))),
      )

  tables_written : TablesRead q.place n (small_in l s) (over_in l s)
  tables_written = record { small = small_word_lem; pair = pair_word; few = few }

  -- ---- strings

  -- string i stands at its place
  pub read-place : (i : ℕ) → i < n → place_at l s i ≡ q.place i
  unfolding place_at
  read-place i h = located q.place n (small_in l s) (over_in l s) tables_written i h

  pub read_wide : (i : ℕ) → i < n → (place_at l s i).wide ≡ (f i).wide
  read_wide i h = ap (λ (p : Place). p.wide) (read-place i h) ∙ (ok.carries.string i h).wide

  pub read_at : (i : ℕ) → i < n → (place_at l s i).at ≡ (q.place i).at
  read_at i h = ap (λ (p : Place). p.at) (read-place i h)

  read_count : (i : ℕ) → i < n → (place_at l s i).count ≡ count_of (f i)
  read_count i h = ap (λ (p : Place). p.count) (read-place i h) ∙ (ok.carries.string i h).count

  pub read_size : (i : ℕ) → i < n → size_of (place_at l s i) ≡ length (f i).bytes
  read_size i h = rw (read_count i h, read_wide i h) (ok.strings i h).whole

  -- within storage
  pub read_within : (i : ℕ) → i < n → (place_at l s i).at + size_of (place_at l s i) ≤ storage_in s
  read_within i h = rw (read_at i h, read_size i h, ok.storage) (ok.carries.string i h).within

  -- byte j of string i
  read_byte : (i j : ℕ) → i < n → j < length (f i).bytes
      → get_or s (storage_at l s + (place_at l s i).at + j) 0 ≡ get_or (f i).bytes j 0
  read_byte i j h k =
      let c = ok.carries.string i h in
      rw (read_at i h, add_assoc) (read_stored ((q.place i).at + j) (omega (arith, c.within)) ∙ c.byte j k)

  -- string i is the one given
  pub read-string : (i : ℕ) → i < n → string_of l s i ≡ f i
  unfolding string_of
  read-string i h =
      let p : Place = place_at l s i in
      let b : bytes_at s (storage_at l s + p.at) (size_of p) ≡ (f i).bytes =
      bytes_at-is s (f i).bytes (storage_at l s + p.at) (size_of p) (sym (read_size i h))
      (λ j k. read_byte i j h (rw (read_size i h) at k)) in
      λ x. record { wide = read_wide i h x; bytes = b x }

  -- narrow strings are ASCII
  pub read_narrow : NarrowIn l s s
  read_narrow i h w j k =
      rw (read_byte i j h (omega (arith, read_count i h, count_le (f i)))) ((ok.strings i h).narrow (sym (read_wide i h) ∙ w) j)

  -- ---- the tables

  -- as many entries overflow as the header says, and the k-th has index k
  pub read_overflows : over_before (small_in l s) n ≡ overflows_in s
  read_overflows = before_is q.place n (small_in l s) (over_in l s) tables_written n (omega arith) ∙ sym ok.overflows

  pub read_index : (i : ℕ) → i < n → is_full (small_in l s i) ≡ true
      → value_of table.entry_offset (small_in l s i) ≡ over_before (small_in l s) i
  read_index i h = index_is q.place n (small_in l s) (over_in l s) tables_written i h

  -- an entry is full exactly where its place's offset is 0x800000 or more or its length 255 or more
  pub read-full : (i : ℕ) → i < n → is_full (small_in l s i) ≡ is_over (place_at l s i)
  read-full i h = full_is q.place n (small_in l s) (over_in l s) tables_written i h ∙ ap is_over (sym (read-place i h))
