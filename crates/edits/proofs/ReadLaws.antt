-- What is read of an image hangs only on the bytes that hold it.
use mathlib.Core.Path.{◌≡◌, refl, ap, sym, ◌∙◌}
use mathlib.Core.Bool.{Bool, true, false}
use mathlib.Core.List.{List}
use Prim.Native.Nat.{ℕ, zero, suc, ◌+◌, ◌*◌, ◌≤◌, ◌<◌}
use native.Mathlib.Omega.{arith}
use lib.ListN.{get_or}
use Rattle.bits.specs.Choice.{pick}
use Rattle.bits.specs.Bytes.{bytes_at, number, number_at, word_at}
use Rattle.bits.proofs.SumLaws.{sum_ext}
use Rattle.bits.proofs.ByteLaws.{bytes_at_ext}
use Rattle.format.specs.declared.Layout.{Layout}
use Rattle.format.specs.Table as table
use Rattle.format.specs.Record.{is_large, pointer}
use Rattle.format.specs.Entry.{bit}
use Rattle.image.specs.Sections.{functions_in, kinds_in, identifiers_in, strings_in, overflows_in, storage_in}
use Rattle.image.specs.Sections.{record_at, kinds_at, hashes_at, small_at, over_at, storage_at, tail_at}
use Rattle.image.specs.Strings.{over_before, small_in, over_in, place_at, size_of, string_of}
use Rattle.image.specs.Kinds.{kind_in, run_of, identifier_run, covered, identified, flag_of, is_identifier, rank_of, hash_in}
use Rattle.image.specs.Functions.{small, header, record_in, func_of}
use Rattle.edits.proofs.SlotLaws.{func_flag, func_pointer}
use Rattle.image.proofs.PlaceLaws.{ordered, record_in_lem, kind_in_lem, hash_in_lem, small_in_lem, pair_in_lem}
use Rattle.edits.proofs.EditLaws.{header_ext}
use Rattle.edits.proofs.TableLaws.{over_ext, locate_ext}

-- two lists have the same bytes from one place to another
abbrev pub Agree : List ℕ → List ℕ → ℕ → ℕ → Type 0
Agree s t from to = (p : ℕ) → from ≤ p → p < to → get_or t p 0 ≡ get_or s p 0

module _ (s t : List ℕ) (from to : ℕ) (same : Agree s t from to) where
  pub bytes_agree : (q n : ℕ) → from ≤ q → q + n ≤ to → bytes_at t q n ≡ bytes_at s q n
  bytes_agree q n h k = bytes_at_ext t s n q q (λ j g. same (q + j) (omega arith) (omega arith))

  pub number_agree : (q n : ℕ) → from ≤ q → q + n ≤ to → number_at t q n ≡ number_at s q n
  number_agree q n h k = ap number (bytes_agree q n h k)

-- ---- kinds hang only on their words

module _ (w v : ℕ → ℕ) where
  pub covered_ext : (n : ℕ) → ((k : ℕ) → k < n → w k ≡ v k) → covered w n ≡ covered v n
  unfolding covered
  covered_ext n h = sum_ext n (λ k. run_of (w k)) (λ k. run_of (v k)) (λ k g. ap run_of (h k g))

  pub identified_ext : (n : ℕ) → ((k : ℕ) → k < n → w k ≡ v k) → identified w n ≡ identified v n
  unfolding identified
  identified_ext n h = sum_ext n (λ k. identifier_run (w k)) (λ k. identifier_run (v k)) (λ k g. ap identifier_run (h k g))

  pub flag_ext : (n i : ℕ) → ((k : ℕ) → k < n → w k ≡ v k) → flag_of w n i ≡ flag_of v n i
  unfolding flag_of
  flag_ext zero i h = refl
  flag_ext (suc n) i h = rw (covered_ext n (λ k g. h k (omega arith)), h n (omega arith), flag_ext n i (λ k g. h k (omega arith)))

-- ---- counts, and the places of the sections up to the overflow table

module _ (l : Layout) (s t : List ℕ) (counts : Agree s t (table.function_count).at (table.overflow_count).at) where
  pub functions_same : functions_in t ≡ functions_in s
  functions_same = number_agree s t 40 56 counts 40 4 (omega arith) (omega arith)

  pub kind_count-same : kinds_in t ≡ kinds_in s
  kind_count-same = number_agree s t 40 56 counts 44 4 (omega arith) (omega arith)

  pub identifier_count-same : identifiers_in t ≡ identifiers_in s
  identifier_count-same = number_agree s t 40 56 counts 48 4 (omega arith) (omega arith)

  pub string_count-same : strings_in t ≡ strings_in s
  string_count-same = number_agree s t 40 56 counts 52 4 (omega arith) (omega arith)

  pub kinds_at-same : kinds_at l t ≡ kinds_at l s
  unfolding kinds_at
  kinds_at-same = rw functions_same

  pub hashes_at-same : hashes_at l t ≡ hashes_at l s
  unfolding hashes_at
  hashes_at-same = rw (kinds_at-same, kind_count-same)

  pub small_at-same : small_at l t ≡ small_at l s
  unfolding small_at
  small_at-same = rw (hashes_at-same, identifier_count-same)

  pub over_at-same : over_at l t ≡ over_at l s
  unfolding over_at
  over_at-same = rw (small_at-same, string_count-same)

  -- ---- hash slots

  pub hash_same : Agree s t (hashes_at l s) (small_at l s) → (r : ℕ) → r < identifiers_in s → hash_in l t r ≡ hash_in l s r
  unfolding hash_in
  hash_same hashes r h =
      rw hashes_at-same (number_agree s t (hashes_at l s) (small_at l s) hashes (hashes_at l s + r * 4) 4 (omega arith)
      (hash_in_lem l s r h))

  -- ---- kinds

  module _ (kinds : Agree s t (kinds_at l s) (hashes_at l s)) where
    kind_same : (k : ℕ) → k < kinds_in s → kind_in l t k ≡ kind_in l s k
    unfolding kind_in
    kind_same k h =
        rw kinds_at-same (number_agree s t (kinds_at l s) (hashes_at l s) kinds (kinds_at l s + k * 4) 4 (omega arith)
        (kind_in_lem l s k h))

    pub covered_all : covered (kind_in l t) (kinds_in t) ≡ covered (kind_in l s) (kinds_in s)
    covered_all = rw kind_count-same (covered_ext (kind_in l t) (kind_in l s) (kinds_in s) kind_same)

    pub identified_all : identified (kind_in l t) (kinds_in t) ≡ identified (kind_in l s) (kinds_in s)
    identified_all = rw kind_count-same (identified_ext (kind_in l t) (kind_in l s) (kinds_in s) kind_same)

    pub identifier_same : (i : ℕ) → is_identifier l t i ≡ is_identifier l s i
    unfolding is_identifier
    identifier_same i = rw kind_count-same (flag_ext (kind_in l t) (kind_in l s) (kinds_in s) i kind_same)

    pub rank_same : (i : ℕ) → rank_of l t i ≡ rank_of l s i
    unfolding rank_of
    rank_same i = sum_ext i (λ j. bit (is_identifier l t j)) (λ j. bit (is_identifier l s j)) (λ j h. ap bit (identifier_same j))

-- ---- functions

-- the same counts and records
pub record SameRecords (l : Layout) (s t : List ℕ) : Type 0 where
  pub counts : Agree s t (table.function_count).at (table.overflow_count).at
  pub records : Agree s t (table.record_row l).at (kinds_at l s)

module _ (l : Layout) (s t : List ℕ) (sm : SameRecords l s t) where
  pub record_same : (i : ℕ) → i < functions_in s → record_in l t i ≡ record_in l s i
  unfolding record_in
  record_same i h =
      number_agree s t (table.record_row l).at (kinds_at l s) sm.records (record_at l i) (table.record_row l).width (omega arith)
      (record_in_lem l s i h)

  pub func_same : (i : ℕ) → i < functions_in s
      → ((func_of l s i).large ≡ true → Agree s t (func_of l s i).ptr ((func_of l s i).ptr + (table.large_row l).width))
      → func_of l t i ≡ func_of l s i
  unfolding func_of
  func_same i h words =
      ap (λ (n : ℕ). pick (is_large l n) (header l (pointer l n) t) (small l n)) (record_same i h)
      ∙ go (is_large l (record_in l s i)) refl
    where
      go : (b : Bool) → is_large l (record_in l s i) ≡ b
          → pick b (header l (pointer l (record_in l s i)) t) (small l (record_in l s i))
          ≡ pick b (header l (pointer l (record_in l s i)) s) (small l (record_in l s i))
      go true e =
          let q = func_pointer l s i e in
          let p = pointer l (record_in l s i) in
          header_ext l p t s (λ k g. words (sym (func_flag l s i) ∙ e) (p + k) (omega (arith, q)) (omega (arith, q)))
      go false e = refl

-- ---- strings

module _ (l : Layout) (s t : List ℕ)
    (words : Agree s t (table.function_count).at ((table.storage_size).at + (table.storage_size).width)) where
  pub counts_of : Agree s t (table.function_count).at (table.overflow_count).at
  counts_of p h k = words p h (omega arith)

  pub overflow_count-same : overflows_in t ≡ overflows_in s
  overflow_count-same = number_agree s t 40 64 words 56 4 (omega arith) (omega arith)

  pub storage_size-same : storage_in t ≡ storage_in s
  storage_size-same = number_agree s t 40 64 words 60 4 (omega arith) (omega arith)

  pub storage_at-same : storage_at l t ≡ storage_at l s
  unfolding storage_at
  storage_at-same = rw (over_at-same l s t counts_of, overflow_count-same)

  pub tail_at-same : tail_at l t ≡ tail_at l s
  unfolding tail_at
  tail_at-same = rw (storage_at-same, storage_size-same)

  module _ (tables : Agree s t (small_at l s) (storage_at l s)) where
    pub small_same : (i : ℕ) → i < strings_in s → small_in l t i ≡ small_in l s i
    unfolding small_in
    small_same i h =
        rw (small_at-same l s t counts_of)
        (number_agree s t (small_at l s) (storage_at l s) tables (small_at l s + i * 4) 4 (omega arith)
        (omega (arith, small_in_lem l s i h, (ordered l s).storage)))

    pair_same : (k : ℕ) → k < overflows_in s → over_in l t k ≡ over_in l s k
    unfolding over_in
    pair_same k h =
        let word : (p : ℕ) → p + 4 ≤ 8 → word_at t (over_at l s + k * 8 + p) ≡ word_at s (over_at l s + k * 8 + p) =
        λ p g. number_agree s t (small_at l s) (storage_at l s) tables (over_at l s + k * 8 + p) 4 (omega (arith, (ordered l s).over))
        (omega (arith, pair_in_lem l s k h)) in
        rw (over_at-same l s t counts_of)
        (λ x. record { at = word (table.overflow_offset).at (omega arith) x; count = word (table.overflow_length).at (omega arith) x })

    pub before_same : (i : ℕ) → i ≤ strings_in s → over_before (small_in l t) i ≡ over_before (small_in l s) i
    before_same i h = over_ext (small_in l t) (small_in l s) i (λ j k. small_same j (omega arith))

-- the same words of the header and string tables, with as many overflow entries as the header says
pub record SameEntries (l : Layout) (s t : List ℕ) : Type 0 where
  pub words : Agree s t (table.function_count).at ((table.storage_size).at + (table.storage_size).width)
  pub tables : Agree s t (small_at l s) (storage_at l s)
  pub counted : over_before (small_in l s) (strings_in s) ≡ overflows_in s

module _ (l : Layout) (s t : List ℕ) (sm : SameEntries l s t) where
  pub place_same : (i : ℕ) → i < strings_in s → place_at l t i ≡ place_at l s i
  unfolding place_at
  place_same i h =
      sym (locate_ext (small_in l s) (small_in l t) (over_in l s) (over_in l t) (strings_in s) i h
      (λ j k. sym (small_same l s t sm.words sm.tables j k))
      (λ j k. sym (pair_same l s t sm.words sm.tables j (omega (arith, sm.counted)))))

  pub string-same : (i : ℕ) → i < strings_in s
      → Agree s t (storage_at l s + (place_at l s i).at) (storage_at l s + (place_at l s i).at + size_of (place_at l s i))
      → string_of l t i ≡ string_of l s i
  unfolding string_of
  string-same i h same =
      rw (place_same i h, storage_at-same l s t sm.words)
      (ap (λ (b : List ℕ). record { wide = (place_at l s i).wide; bytes = b })
      (bytes_agree s t (storage_at l s + (place_at l s i).at) (storage_at l s + (place_at l s i).at + size_of (place_at l s i)) same
      (storage_at l s + (place_at l s i).at) (size_of (place_at l s i)) (omega arith) (omega arith)))
