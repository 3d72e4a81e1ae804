-- An image made of its parts reads as its parts, is sealed, and is admitted where its functions lie in the tail.
use mathlib.Core.Path.{◌≡◌, refl, ◌∙◌}
use mathlib.Core.List.{List, ◌++◌}
use Prim.Native.Nat.{ℕ, ◌+◌, ◌-◌, ◌*◌, ◌^◌, ◌≤◌, ◌<◌}
use native.Mathlib.Nat.{add_assoc, zero-add, suc-mul, mul-le-mul_right}
use native.Mathlib.Omega.{arith}
use lib.ListN.{length, get_or, replicate, length-append, length-replicate, get_or-append}
use Rattle.bits.specs.Bytes.{number_at, up4, zeros_to4, words_of}
use Rattle.bits.specs.Outcome.{made}
use Rattle.bits.proofs.ListLaws.{AllBelow, Lies, get_d_past, below_append, below_zeros}
use Rattle.bits.proofs.ByteLaws.{number_at_ext, length-words, words-at, words_below}
use Rattle.format.specs.declared.Layout.{Layout}
use Rattle.format.specs.Table as table
use Rattle.footer.specs.Footer.{footer_length}
use Rattle.footer.specs.Finalize.{finalize_of, Sealed}
use Rattle.footer.proofs.FinalizeLaws.{finalize_within, finalize_length, finalize_keeps}
use Rattle.footer.proofs.SealLaws.{finalize_below, finalize_sealed}
use Rattle.image.specs.Sections.{functions_in, kinds_in, identifiers_in, strings_in, overflows_in, storage_in, debug_in}
use Rattle.image.specs.Sections.{record_at, kinds_at, hashes_at, small_at, over_at, storage_at, tail_at}
use Rattle.image.specs.Strings.{Str}
use Rattle.image.specs.Kinds.{kind_in, covered, identified, flag_of, is_identifier}
use Rattle.image.specs.Functions.{record_in}
use Rattle.image.specs.Admitted.{Admitted}
use Rattle.image.proofs.PlaceLaws.{records_at, debug-at, debug_past_lem}
use Rattle.edits.specs.Packing.{Carries}
use Rattle.edits.specs.Rebuild.{smalls, pairs, overs, region, padded}
use Rattle.edits.proofs.ReadLaws.{covered_ext, identified_ext, flag_ext}
use Rattle.edits.proofs.RebuildLaws.{Valid}
use Rattle.edits.proofs.TableLaws.{smalls_below, pairs_below}
use Rattle.edits.proofs.RegionLaws.{length-region, Bears}
use Rattle.edits.proofs.KeepLaws.{Tabled, PlacedIn, bears_tabled, admitted_of}
use Rattle.image_parts.specs.Parts.{Parts, front, sections, laid, joined, PartsFit}

-- ---- bytes in joined lists

module _ (xs ys : List ℕ) where
  lies_first : Lies (xs ++ ys) 0 xs
  lies_first j h = rw zero-add (get_or-append xs ys 0 j h)

  lies_early : (at : ℕ) (zs : List ℕ) → at + length zs ≤ length xs → Lies xs at zs → Lies (xs ++ ys) at zs
  lies_early at zs h r j k = get_or-append xs ys 0 (at + j) (omega arith) ∙ r j k

  lies_past : (at : ℕ) (zs : List ℕ) → Lies ys at zs → Lies (xs ++ ys) (length xs + at) zs
  lies_past at zs r j k = rw add_assoc (get_d_past xs ys (length xs) (at + j) refl ∙ r j k)

  lies_last : Lies (xs ++ ys) (length xs) ys
  lies_last j k = get_d_past xs ys (length xs) j refl

-- ---- parts

-- the words of the kinds
abbrev pub kind_of : Parts → ℕ → ℕ
kind_of x k = get_or x.kinds k 0

-- the strings are f's and valid, the kinds count them and the identifiers among them, and all else is bytes
pub record Matches (x : Parts) (f : ℕ → Str) : Type 0 where
  pub carries : Carries x.count f x.strings
  pub valid : (i : ℕ) → i < x.count → Valid (f i)
  pub words : AllBelow (2 ^ 32) x.kinds
  pub covers : covered (kind_of x) (length x.kinds) ≡ x.count
  pub names : identified (kind_of x) (length x.kinds) ≡ length x.hashes
  pub header : AllBelow 256 x.header
  pub records : AllBelow 256 x.records
  pub tail : AllBelow 256 x.tail

module _ (x : Parts) where
  -- the words of tables and storage, by their lengths
  abbrev stringed : ℕ
  stringed = x.count * 4 + (overs x.strings.place x.count * 8 + length x.strings.store)

  -- ---- sizes

  pub length_front : length (front x) ≡ length x.header + (length x.records + (length x.kinds * 4 + length x.hashes * 4))
  unfolding front
  length_front = simp (length-append, length-words)

  pub length-sections : length (sections x) ≡ up4 (length (front x) + stringed)
  unfolding sections padded
  length-sections = simp (length-append, length-replicate) (omega (arith, length-region x.count x.strings))

  pub length-laid : length (laid x) ≡ length (sections x) + length x.tail
  unfolding laid
  length-laid = length-append (sections x) x.tail

  -- ---- each part at its place

  header_lies : Lies (front x) 0 x.header
  unfolding front
  header_lies = lies_first x.header _

  records_lie : Lies (front x) (length x.header + 0) x.records
  unfolding front
  records_lie = lies_past x.header _ 0 x.records (lies_first x.records _)

  kinds_lie : Lies (front x) (length x.header + (length x.records + 0)) (words_of x.kinds)
  unfolding front
  kinds_lie =
      lies_past x.header _ (length x.records + 0) (words_of x.kinds)
      (lies_past x.records _ 0 (words_of x.kinds) (lies_first (words_of x.kinds) _))

  front_lies : (at : ℕ) (zs : List ℕ) → at + length zs ≤ length (front x) → Lies (front x) at zs → Lies (laid x) at zs
  unfolding laid sections
  front_lies at zs h r =
      let ys : List ℕ = padded (length (front x)) (region x.count x.strings) in
      lies_early (front x ++ ys) x.tail at zs (simp length-append (omega arith)) (lies_early (front x) ys at zs h r)

  region_lies : Lies (laid x) (length (front x)) (region x.count x.strings)
  unfolding laid sections padded
  region_lies =
      let r : List ℕ = region x.count x.strings in
      let z : List ℕ = zeros_to4 (length (front x) + length r) in
      lies_early (front x ++ (r ++ z)) x.tail (length (front x)) r (simp length-append (omega arith))
      (λ j k. lies_last (front x) (r ++ z) j (simp length-append (omega arith)) ∙ get_or-append r z 0 j k)

  tail_lies : Lies (laid x) (length (sections x)) x.tail
  unfolding laid
  tail_lies = lies_last (sections x) x.tail

  -- ---- bytes

  laid_below : (f : ℕ → Str) → Matches x f → AllBelow 256 (laid x)
  unfolding laid sections front padded region
  laid_below f m =
      let ks : List ℕ = words_of x.kinds in
      let hs : List ℕ = words_of x.hashes in
      let ws : List ℕ = smalls x.strings.place x.count in
      let vs : List ℕ = pairs x.strings.place x.count in
      let rg : List ℕ = ws ++ (vs ++ x.strings.store) in
      let fr : List ℕ = x.header ++ (x.records ++ (ks ++ hs)) in
      let pad : ℕ = up4 (length fr + length rg) - (length fr + length rg) in
      joins (fr ++ (rg ++ replicate pad 0)) x.tail
      (joins fr (rg ++ replicate pad 0)
      (joins x.header (x.records ++ (ks ++ hs)) m.header
      (joins x.records (ks ++ hs) m.records (joins ks hs (words_below x.kinds) (words_below x.hashes))))
      (joins rg (replicate pad 0)
      (joins ws (vs ++ x.strings.store) (smalls_below x.strings.place x.count)
      (joins vs x.strings.store (pairs_below x.strings.place x.count)
      (m.carries.bytes 256 (omega arith) (λ i g. (m.valid i g).bytes))))
      (below_zeros 256 (omega arith) pad)))
      m.tail
    where
      joins : (xs ys : List ℕ) → AllBelow 256 xs → AllBelow 256 ys → AllBelow 256 (xs ++ ys)
      joins = below_append 256 (omega arith)

-- ---- the image

module _ (l : Layout) (x : Parts) (ok : PartsFit l x) where
  abbrev s : List ℕ
  s = joined x

  abbrev raw : List ℕ
  raw = laid x ++ replicate footer_length 0

  long : table.header_length ≤ length (front x)
  long = omega (arith, length_front x, ok.long)

  laid-long : length (front x) + length (region x.count x.strings) ≤ length (laid x)
  laid-long = omega (arith, length-laid x, length-sections x, length-region x.count x.strings)

  length_raw : length raw ≡ length (laid x) + footer_length
  length_raw = length-append (laid x) (replicate footer_length 0)

  done : finalize_of raw ≡ made s
  unfolding joined
  done = finalize_within raw (omega (arith, length_raw, laid-long, long)) (omega (arith, length_raw, ok.limit))

  pub length-joined : length s ≡ length (laid x) + footer_length
  length-joined = finalize_length raw s done ∙ length_raw

  -- the file length and the footer are those of 01
  pub joined-sealed : Sealed s
  joined-sealed = finalize_sealed raw s done (omega (arith, length_raw, laid-long, long))

  -- every byte stays but the file length's
  byte_is : (p : ℕ) → p < length (laid x) → ((table.file_length).at ≤ p → (table.file_length).at + (table.file_length).width ≤ p)
      → get_or s p 0 ≡ get_or (laid x) p 0
  byte_is p h o =
      finalize_keeps raw s done p (omega (arith, length_raw)) o ∙ get_or-append (laid x) (replicate footer_length 0) 0 p h

  lies_in : (at : ℕ) (zs : List ℕ) → 36 ≤ at → at + length zs ≤ length (laid x) → Lies (laid x) at zs → Lies s at zs
  lies_in at zs h k r j g = byte_is (at + j) (omega arith) (λ q. omega arith) ∙ r j g

  front_in : (at : ℕ) (zs : List ℕ) → 36 ≤ at → at + length zs ≤ length (front x) → Lies (front x) at zs → Lies s at zs
  front_in at zs h k r = lies_in at zs h (omega (arith, laid-long)) (front_lies x at zs k r)

  -- ---- the header

  header_byte : (p : ℕ) → p < table.header_length
      → ((table.file_length).at ≤ p → (table.file_length).at + (table.file_length).width ≤ p)
      → get_or s p 0 ≡ get_or x.header p 0
  header_byte p h o =
      let k : p < length x.header = omega (arith, ok.long) in
      byte_is p (omega (arith, laid-long, long)) o
      ∙ (rw zero-add at (front_lies x 0 x.header (omega (arith, length_front x)) (header_lies x) p k))

  pub header-number : (p n : ℕ) → p + n ≤ table.header_length
      → ((table.file_length).at < p + n → (table.file_length).at + (table.file_length).width ≤ p)
      → number_at s p n ≡ number_at x.header p n
  header-number p n h o =
      number_at_ext s x.header n p p (λ j k. header_byte (p + j) (omega arith) (λ q. omega (arith, o (omega arith))))

  pub functions_is : functions_in s ≡ functions_in x.header
  functions_is = header-number 40 4 (omega arith) (λ h. omega arith)

  pub kinds-is : kinds_in s ≡ length x.kinds
  kinds-is = header-number 44 4 (omega arith) (λ h. omega arith) ∙ ok.kinds

  pub identifiers_is : identifiers_in s ≡ length x.hashes
  identifiers_is = header-number 48 4 (omega arith) (λ h. omega arith) ∙ ok.identifiers

  pub strings_is : strings_in s ≡ x.count
  strings_is = header-number 52 4 (omega arith) (λ h. omega arith) ∙ ok.strings

  pub overflows_is : overflows_in s ≡ overs x.strings.place x.count
  overflows_is = header-number 56 4 (omega arith) (λ h. omega arith) ∙ ok.overflows

  pub storage_is : storage_in s ≡ length x.strings.store
  storage_is = header-number 60 4 (omega arith) (λ h. omega arith) ∙ ok.storage

  pub debug-is : debug_in l s ≡ debug_in l x.header
  debug-is = header-number (table.place_in l (table.debug_row l)) (table.debug_row l).width (debug-at l)
      (λ h. omega (arith, debug_past_lem l))

  -- ---- the places of the sections

  pub kinds-at : kinds_at l s ≡ length x.header + length x.records
  unfolding kinds_at
  kinds-at = rw functions_is (omega (arith, ok.long, records_at l, ok.functions))

  pub small_at_lem : small_at l s ≡ length (front x)
  unfolding small_at hashes_at
  small_at_lem = rw (kinds-at, kinds-is, identifiers_is) (omega (arith, length_front x))

  pub storage_at_lem : storage_at l s ≡ length (front x) + (x.count * 4 + overs x.strings.place x.count * 8)
  unfolding storage_at over_at
  storage_at_lem = rw (small_at_lem, strings_is, overflows_is) (omega arith)

  pub tail_at_lem : tail_at l s ≡ length (sections x)
  unfolding tail_at
  tail_at_lem = rw (storage_at_lem, storage_is) (omega (arith, length-sections x))

  -- ---- records and kinds

  pub record_is : (i : ℕ) → i < functions_in x.header
      → record_in l s i ≡ number_at x.records (i * (table.record_row l).width) (table.record_row l).width
  unfolding record_in
  record_is i h =
      let w : ℕ = (table.record_row l).width in
      let a : ℕ = length x.header + 0 in
      let r : i * w + w ≤ length x.records = omega (arith, ok.functions, suc-mul i w, mul-le-mul_right w h) in
      number_at_ext s x.records w (record_at l i) (i * w)
      (λ j k.
      let e : record_at l i + j ≡ a + (i * w + j) = omega (arith, ok.long, records_at l) in
      rw e
      (front_in a x.records (omega (arith, ok.long)) (omega (arith, length_front x)) (records_lie x) (i * w + j)
      (omega arith)))

  module _ (words : AllBelow (2 ^ 32) x.kinds) where
    kind_is : (k : ℕ) → k < length x.kinds → kind_in l s k ≡ kind_of x k
    unfolding kind_in
    kind_is k h =
        let a : ℕ = length x.header + (length x.records + 0) in
        let ks : List ℕ = words_of x.kinds in
        let n : length ks ≡ length x.kinds * 4 = length-words x.kinds in
        number_at_ext s ks 4 (kinds_at l s + k * 4) (k * 4)
        (λ j g.
        let e : kinds_at l s + k * 4 + j ≡ a + (k * 4 + j) = omega (arith, kinds-at) in
        rw e
        (front_in a ks (omega (arith, ok.long)) (omega (arith, length_front x)) (kinds_lie x) (k * 4 + j) (omega arith)))
        ∙ words-at x.kinds k h (λ q g. words q)

    pub flag_is : (i : ℕ) → is_identifier l s i ≡ flag_of (kind_of x) (length x.kinds) i
    unfolding is_identifier
    flag_is i = rw kinds-is (flag_ext (kind_in l s) (kind_of x) (length x.kinds) i kind_is)

  -- ---- the tail

  pub tail_is : Lies s (tail_at l s) x.tail
  tail_is =
      rw tail_at_lem
      (lies_in (length (sections x)) x.tail (omega (arith, long, length-sections x)) (omega (arith, length-laid x)) (tail_lies x))

  -- ---- strings

  module _ (f : ℕ → Str) (m : Matches x f) where
    pub bears : Bears l f x.strings s
    bears = record {
      overflows = rw strings_is overflows_is;
      storage = storage_is;
      bytes = rw (strings_is, small_at_lem)
          (lies_in (length (front x)) (region x.count x.strings) (omega (arith, long)) laid-long (region_lies x));
      limit = rw strings_is (omega (arith, laid-long, ok.limit));
      carries = rw strings_is m.carries;
      strings = rw strings_is m.valid;
    }

    -- ---- admitted

    tabled : Tabled l s
    tabled =
        bears_tabled l f x.strings s bears
        (rw (kinds-is, strings_is) (covered_ext (kind_in l s) (kind_of x) (length x.kinds) (kind_is m.words) ∙ m.covers))
        (rw (kinds-is, identifiers_is) (identified_ext (kind_in l s) (kind_of x) (length x.kinds) (kind_is m.words) ∙ m.names))

    pub joined_admitted : PlacedIn l s → Admitted l s
    joined_admitted pl =
        let b : AllBelow 256 (laid x) = laid_below x f m in
        let z : AllBelow 256 (replicate footer_length 0) = below_zeros 256 (omega arith) footer_length in
        admitted_of l s
        (record {
          bytes = finalize_below raw s done (below_append 256 (omega arith) (laid x) (replicate footer_length 0) b z);
          least = omega (arith, length-joined, laid-long, length_front x, ok.long);
          most = omega (arith, length-joined, ok.limit);
          magic = header-number 0 8 (omega arith) (λ q. absurd (omega arith)) ∙ ok.magic;
          room = omega (arith, length-joined, tail_at_lem, length-laid x);
        }) tabled pl
