-- Every image that build_minimal_modern makes is admitted, and reads as the strings and the body that went in.
use Rattle.std.specs.Prelude.{Ok}
use mathlib.Core.Path.{◌≡◌, refl, ap, sym, ◌∙◌, subst}
use mathlib.Core.Bool.{Bool, true, false, not}
use mathlib.Core.Logic.{inl, inr}
use mathlib.Core.List.{List, [], ◌∷◌, ◌++◌, append_assoc, append-nil}
use Prim.Native.Nat.{ℕ, zero, suc, ◌+◌, ◌-◌, ◌*◌, ◌/◌, ◌%◌, ◌^◌, ◌≤◌, ◌<◌}
use native.Mathlib.Nat.{not-suc-le-zero, zero-add, mod-eq_of_lt}
use native.Mathlib.Numerals.{add-one}
use native.Mathlib.Omega.{arith}
use borrow.Author.Tests.{le-leb, ne_eqb}
use lib.Dec.{ltb}
use lib.ListN.{length, get_or, take, drop, replicate, length-append, length-replicate, get_or-append, get_or-eq_default}
use lib.Seq.{length-take-le, get_or-take, take_at}
use Rattle.bits.specs.Choice.{pick, sum_below}
use Rattle.bits.specs.Fields.{field_of, with_field}
use Rattle.bits.specs.Bytes.{bytes_at, number_at, bytes_of, words_of, up4, zeros_to4}
use Rattle.bits.specs.Outcome.{Outcome, made, refused, roomed, answered, Answers}
use Rattle.bits.proofs.TestLaws.{below, below_or, all_at}
use Rattle.bits.proofs.AsciiLaws.{ascii_below}
use Rattle.bits.proofs.ListLaws.{AllBelow, Lies, get_d_past, below_nil, below_append, below_zeros, below_bytes_of}
use Rattle.bits.proofs.ByteLaws.{length-bytes_of, length-bytes_at, get_d_bytes_at, bytes_at-is, number_lies, number_at_lies}
use Rattle.bits.proofs.FieldLaws.{with_lt, field-front}
use Rattle.format.specs.declared.Field.{Field}
use Rattle.format.specs.declared.Layout.TheVariants.{Modern}
use Rattle.format.specs.Table as table
use Rattle.format.specs.Record.{with_value, is_large, put_pointer}
use Rattle.format.specs.Number.{number_held, number_from}
use Rattle.format.specs.Entry.{Place, is_over, small_word}
use Rattle.format.proofs.RecordLaws.{pointer-flag, pointer_back, pointer-lt}
use Rattle.footer.specs.Footer.{footer_length}
use Rattle.footer.specs.Finalize.{size_limit, lengthed, sealed}
use Rattle.header_write.proofs.HeaderLaws.{length-modern_header}
use Rattle.header_write.proofs.ReadLaws.{Headed, header_below, header_read}
use Rattle.serialize.specs.Parts as builder
use Rattle.serialize.specs.Parts.{start_of, place_of, storage_of, storage_at, large_header, header_of, record_of, small_table}
use Rattle.serialize.specs.Parts.{tail_of, minimal}
use Rattle.serialize.specs.Builder.{all_small, built}
use Rattle.serialize.proofs.PartLaws.{length-large_header, large_offset_lem, large_size, large_below}
use Rattle.serialize.proofs.BuilderLaws.{BuildAccepted, accepted, ascends-at}
use Rattle.image.specs.Sections.{functions_in, strings_in, debug_in, tail_at}
use Rattle.image.specs.Kinds.{covered, identified, flag_of, is_identifier_run}
use Rattle.image.specs.Functions.{Func, record_in, func_of, body_of}
use Rattle.image.specs.Functions as large
use Rattle.edits.specs.Packing.{Carries}
use Rattle.edits.specs.Rebuild.{smalls, pairs, overs, region, padded}
use Rattle.edits.proofs.TableLaws.{size-smalls, overs-none, overs_next}
use Rattle.edits.proofs.RebuildLaws.{Valid}
use Rattle.edits.proofs.RegionLaws.{Bears, read-string, read-place}
use Rattle.edits.proofs.KeepLaws.{PlacedIn, placed_as}
use Rattle.image_parts.specs.Parts.{Parts, front, sections, laid, joined, PartsFit}
use Rattle.image_parts.proofs.PartLaws.{length_front, length-sections, length-laid, length-joined, joined-sealed, header-number}
use Rattle.image_parts.proofs.PartLaws.{functions_is, strings_is, debug-is, kinds-at, small_at_lem, storage_at_lem, tail_at_lem, record_is}
use Rattle.image_parts.proofs.PartLaws.{Matches, flag_is, tail_is, bears, joined_admitted}
use Rattle.built_image.specs.Built.{given, body_at, function, parts_of, Built}

-- ---- places that all fit small entries

module _ (p : ℕ → Place) where
  pairs-empty : (n : ℕ) → ((i : ℕ) → i < n → is_over (p i) ≡ false) → pairs p n ≡ []
  unfolding pairs
  pairs-empty zero h = refl
  pairs-empty (suc n) h = rw (pairs-empty n (λ i k. h i (omega arith)), h n (omega arith))

  overs-zero : (n : ℕ) → ((i : ℕ) → i < n → is_over (p i) ≡ false) → overs p n ≡ 0
  overs-zero zero h = overs-none p
  overs-zero (suc n) h = overs_next p n ∙ rw (overs-zero n (λ i k. h i (omega arith)), h n (omega arith))

table_is : (ends : List ℕ) (n : ℕ) → ((i : ℕ) → i < n → is_over (place_of ends i) ≡ false)
    → small_table ends n ≡ smalls (place_of ends) n
unfolding small_table smalls small_word
table_is ends zero h = refl
table_is ends (suc n) h =
    rw (table_is ends n (λ i k. h i (omega arith)), h n (omega arith))

below_cons : (k x : ℕ) (xs : List ℕ) → x < k → AllBelow k xs → AllBelow k (x ∷ xs)
below_cons k x xs h b zero = h
below_cons k x xs h b (suc j) = b j

-- a number is read from its bytes
number_self : (n x : ℕ) → x < 256 ^ n → number_at (bytes_of n x) 0 n ≡ x
number_self n x h = number_lies (bytes_of n x) 0 n x (λ j k. rw zero-add) h

-- ---- ends that ascend

module _ (ends : List ℕ) (asc : (i : ℕ) → i < length ends → start_of ends i ≤ start_of ends (suc i)) where
  start_le : (n i : ℕ) → n ≤ length ends → i ≤ n → start_of ends i ≤ start_of ends n
  start_le zero i h k = let e : i ≡ 0 = omega arith in rw e (omega arith)
  start_le (suc n) i h k =
      elim (below i (suc n) (omega arith)) [
        | inl e ↦ rw e (omega arith)
        | inr g ↦ omega (arith, start_le n i (omega arith) (omega arith), asc n (omega arith))
      ]

  -- a byte before the last end is one of a string's
  abbrev Owned : ℕ → ℕ → Type 0
  Owned n q = (i : ℕ) × (i < n) × (start_of ends i ≤ q) × (q < start_of ends (suc i))

  owner : (n q : ℕ) → n ≤ length ends → q < start_of ends n → Owned n q
  unfolding start_of
  owner zero q h k = absurd (not-suc-le-zero k)
  owner (suc n) q h k =
      elim (below_or q (start_of ends n)) [
        | inl g ↦ let (i, a, b, c) = owner n q (omega arith) g in (i, omega arith, b, c)
        | inr g ↦ (n, omega arith, g, k)
      ]

module _ (v : ℕ) (text ends code : List ℕ) where
  abbrev n : ℕ
  n = length ends

  abbrev store : List ℕ
  store = storage_of text ends

  abbrev begin : ℕ
  begin = body_at text ends

  abbrev far : ℕ
  far = builder.large_at begin (length code)

  abbrev p : Parts
  p = parts_of v text ends code

  -- the version fits its word and the code is bytes, as the parameters' types say; nothing is refused
  module _ (word : v < 2 ^ 32) (bytes : AllBelow 256 code) (size : ℕ) (ok : BuildAccepted v text ends code size) where
    ascend : (i : ℕ) → i < n → start_of ends i ≤ start_of ends (suc i)
    ascend i h = rw add-one at (ascends-at ends i ok.ascends h)

    narrow : AllBelow 0x80 store
    narrow = ascii_below store ok.plain

    small : (i : ℕ) → i < n → is_over (place_of ends i) ≡ false
    unfolding all_small
    small i h = flip (is_over (place_of ends i)) (all_at (λ j. not (is_over (place_of ends j))) n i ok.small h)
      where
        flip : (b : Bool) → not b ≡ true → b ≡ false
        flip true t = sym t
        flip false t = refl

    limit : far + (table.modern_large_whole).width + footer_length ≤ size_limit
    limit = omega (arith, ok.measured, ok.limit)

    -- ---- sizes

    length_table : length (small_table ends n) ≡ n * 4
    length_table = rw (table_is ends n small) (size-smalls (place_of ends) n)

    length_head : length p.header ≡ table.header_length
    unfolding header_of
    length_head = length-modern_header v (replicate (table.source_hash_row).width 0) 1 1 0 n (length store)
        (replicate table.header_length 0)

    front-is : length (front p) ≡ 144
    front-is = length_front p ∙ rw (length_head, length-bytes_of 12 (record_of far)) refl

    length_store : length store ≡ start_of ends n
    length_store = length-take-le (start_of ends n) text ok.last

    begin_is : length (sections p) ≡ begin
    begin_is = length-sections p ∙ rw (front-is, overs-zero (place_of ends) n small) (omega arith)

    length_tail : begin + length p.tail ≡ far + (table.modern_large_whole).width
    unfolding tail_of
    length_tail = simp (length-append, length-replicate, length-large_header) (omega arith)

    long-is : length (laid p) ≡ far + (table.modern_large_whole).width
    long-is = omega (arith, length-laid p, begin_is, length_tail)

    -- ---- the parts are the image

    sections_are : sections p ≡ builder.sections v store ends far
    unfolding sections front padded region builder.sections words_of
    sections_are =
        let t : List ℕ = small_table ends n in
        let e : length (front p) + length (t ++ store) ≡ storage_at n + length store =
        omega (arith, front-is, length-append t store, length_table) in
        rw (pairs-empty (place_of ends) n small, ← table_is ends n small)
        (ap (λ (k : ℕ). front p ++ (t ++ store ++ zeros_to4 k)) e
        ∙ regroup p.header p.records (bytes_of 4 n) t store (zeros_to4 (storage_at n + length store)))
      where
        regroup : (a r k t s z : List ℕ) → (a ++ (r ++ ((k ++ []) ++ []))) ++ (t ++ s ++ z) ≡ a ++ r ++ k ++ t ++ s ++ z
        regroup a r k t s z = simp (append_assoc, append-nil)

    joined_is : joined p ≡ minimal v store ends code
    unfolding joined minimal laid builder.all_but_footer
    joined_is = ap (λ (a : List ℕ). sealed (lengthed (a ++ tail_of begin code ++ replicate footer_length 0))) sections_are

    headed : Headed v 1 1 0 n (length store) p.header
    unfolding header_of
    headed =
        header_read v (replicate (table.source_hash_row).width 0) 1 1 0 n (length store) (replicate table.header_length 0) (omega arith)
        (record {
          version = word;
          functions = omega arith;
          kinds = omega arith;
          identifiers = omega arith;
          strings = omega (arith, limit, long-is);
          storage = omega (arith, limit, long-is);
        })

    fits : PartsFit Modern p
    fits = record {
      long = length_head;
      magic = headed.magic;
      functions = length-bytes_of 12 (record_of far) ∙ rw headed.functions;
      kinds = headed.kinds;
      identifiers = headed.identifiers;
      strings = headed.strings;
      overflows = headed.overflows ∙ sym (overs-zero (place_of ends) n small);
      storage = headed.storage;
      limit = omega (arith, limit, long-is);
    }

    -- ---- strings

    -- string i has as many bytes as lie between the two ends, and lies before the last end
    length-given : (i : ℕ) → length (given text ends i).bytes ≡ start_of ends (suc i) - start_of ends i
    length-given i = length-bytes_at text (start_of ends i) (start_of ends (suc i) - start_of ends i)

    end_le : (i : ℕ) → i < n → start_of ends (suc i) ≤ start_of ends n
    end_le i h = start_le ends ascend n (suc i) (omega arith) h

    given_byte : (i j : ℕ) → i < n → j < start_of ends (suc i) - start_of ends i
        → get_or (given text ends i).bytes j 0 ≡ get_or store (start_of ends i + j) 0
    given_byte i j h k =
        get_d_bytes_at text (start_of ends (suc i) - start_of ends i) (start_of ends i) j k
        ∙ sym (get_or-take (start_of ends n) text (start_of ends i + j) 0 (omega (arith, end_le i h)))

    carried : Carries n (given text ends) p.strings
    carried = record {
      string = λ i h. record {
        wide = refl;
        count = rw (length-given i) (omega arith);
        within = rw (length-given i) (omega (arith, length_store, ascend i h, end_le i h));
        byte = λ j k. sym (given_byte i j h (rw (length-given i) at k));
      };
      bytes = λ k z h q. elim (below_or q (start_of ends n)) [
        | inl g ↦
            let (i, a, b, c) = owner ends ascend n q (omega arith) g in
            let e : start_of ends i + (q - start_of ends i) ≡ q = omega arith in
            subst (λ (y : ℕ). get_or store y 0 < k) e
            (rw (← given_byte i (q - start_of ends i) a (omega arith)) (h i a (q - start_of ends i)))
        | inr g ↦ rw (get_or-eq_default store 0 {n = q} (omega (arith, length_store))) z
      ];
    }

    given_narrow : (i : ℕ) → i < n → AllBelow 0x80 (given text ends i).bytes
    given_narrow i h j =
        elim (below_or j (start_of ends (suc i) - start_of ends i)) [
          | inl g ↦ rw (given_byte i j h g) (narrow (start_of ends i + j))
          | inr g ↦ rw (get_or-eq_default (given text ends i).bytes 0 {n = j} (omega (arith, length-given i))) (omega arith)
        ]

    valid : (i : ℕ) → i < n → Valid (given text ends i)
    valid i h = record { whole = omega arith; bytes = λ j. omega (arith, given_narrow i h j); narrow = λ w. given_narrow i h }

    -- ---- the one kind

    low : n < 2 ^ 31
    low = omega (arith, limit, long-is)

    not-marked : is_identifier_run n ≡ false
    unfolding field_of
    not-marked = let b : n < 2 ^ 31 = low in ne_eqb (n / 2 ^ 31 % 2 ^ 1) 1 (omega arith)

    abbrev kind : ℕ → ℕ
    kind k = get_or (n ∷ []) k 0

    words : AllBelow (2 ^ 32) (n ∷ [])
    words = below_cons (2 ^ 32) n [] (omega (arith, low)) (below_nil (2 ^ 32) (omega arith))

    covers : covered kind 1 ≡ n
    unfolding covered sum_below
    covers = rw (field-front n 31, mod-eq_of_lt low) (omega arith)

    names : identified kind 1 ≡ 0
    unfolding identified sum_below
    names = rw not-marked

    plain : (i : ℕ) → flag_of kind 1 i ≡ false
    unfolding flag_of covered sum_below
    plain i = rw (le-leb 0 i (omega arith), not-marked)

    -- ---- the function

    abbrev s : List ℕ
    s = joined p

    abbrev bare : ℕ
    bare = with_value table.modern_flags (with_value table.large_flag 1 0) 0

    bare_lt : bare < 2 ^ 96
    bare_lt = with_lt 0 88 8 (with_value table.large_flag 1 0) 96 (omega arith) (omega arith)

    bare_large : is_large Modern bare ≡ true
    unfolding is_large field_of with_field
    bare_large = refl

    record_back : record_in Modern s 0 ≡ record_of far
    unfolding record_of
    record_back =
        record_is Modern p fits 0 (rw headed.functions (omega arith))
        ∙ number_self 12 (put_pointer Modern far bare) (pointer-lt Modern far bare bare_lt)

    far_lt : far < 2 ^ 32
    far_lt = omega (arith, limit, long-is)

    func_head : func_of Modern s 0 ≡ large.header Modern far s
    unfolding func_of record_of
    func_head = rw (record_back, pointer-flag Modern far bare, bare_large, pointer_back Modern far bare far_lt)

    tail_in : tail_at Modern s ≡ begin
    tail_in = tail_at_lem Modern p fits ∙ begin_is

    tail_byte : Lies s begin (tail_of begin code)
    tail_byte = rw tail_in at (tail_is Modern p fits)

    -- the large header stands behind the body
    large_lies : Lies s far (large_header begin (length code))
    unfolding tail_of
    large_lies j h =
        let a : List ℕ = code ++ zeros_to4 (begin + length code) in
        let ys : List ℕ = large_header begin (length code) in
        let l : length a ≡ far - begin = simp (length-append, length-replicate) (omega arith) in
        let e : far + j ≡ begin + (far - begin + j) = omega arith in
        rw e (tail_byte (far - begin + j) (rw (length-append a ys) (omega arith)) ∙ get_d_past a ys (far - begin) j l)

    large_number : (g : Field) → g.at + g.width ≤ (table.modern_large_whole).width
        → number_from far g s ≡ number_held g (large_header begin (length code))
    large_number g h =
        number_at_lies s (large_header begin (length code)) far g.at g.width large_lies
        (omega (arith, length-large_header begin (length code)))

    func_is : func_of Modern s 0 ≡ function text ends code
    unfolding large.header
    func_is =
        let a : number_from far table.large_offset s ≡ begin =
        large_number table.large_offset (omega arith) ∙ large_offset_lem begin (length code) (omega (arith, far_lt)) in
        let b : number_from far table.modern_large_size s ≡ length code =
        large_number table.modern_large_size (omega arith) ∙ large_size begin (length code) (omega (arith, far_lt)) in
        func_head ∙ (λ i. record { large = true; ptr = far; begin = a i; size = b i; info = 0 })

    functions_in_lem : functions_in s ≡ 1
    functions_in_lem = functions_is Modern p fits ∙ headed.functions

    debug_in_lem : debug_in Modern s ≡ 0
    debug_in_lem = debug-is Modern p fits ∙ headed.debug

    length_in : length s ≡ far + (table.modern_large_whole).width + footer_length
    length_in = length-joined Modern p fits ∙ rw long-is

    placed_in : PlacedIn Modern s
    placed_in = rw (functions_in_lem, tail_in, debug_in_lem)
        (placed_as Modern 1 begin (length s) 0 (λ i. function text ends code) (func_of Modern s) only
        (record {
          header = λ i h t. (omega arith, omega (arith, length_in));
          body = λ i h. (omega arith, omega (arith, length_in));
          info = λ i h z. absurd (z refl);
          debug = λ z. absurd (z refl);
          apart = λ i j h k d. absurd (d (omega arith));
          clear = λ i j h k z t g. absurd (omega arith);
        }))
      where
        only : (i : ℕ) → i < 1 → function text ends code ≡ func_of Modern s i
        only i h = let e : i ≡ 0 = omega arith in rw e (sym func_is)

    tail_below : AllBelow 256 p.tail
    unfolding tail_of
    tail_below =
        let z : List ℕ = zeros_to4 (begin + length code) in
        below_append 256 (omega arith) (code ++ z) (large_header begin (length code))
        (below_append 256 (omega arith) code z bytes
        (below_zeros 256 (omega arith) (up4 (begin + length code) - (begin + length code))))
        (large_below begin (length code))

    matches : Matches p (given text ends)
    unfolding header_of
    matches = record {
      carries = carried;
      valid = valid;
      words = words;
      covers = covers;
      names = names;
      header = header_below v (replicate (table.source_hash_row).width 0) 1 1 0 n (length store) (replicate table.header_length 0)
          (below_zeros 256 (omega arith) (table.source_hash_row).width) (below_zeros 256 (omega arith) table.header_length);
      records = below_bytes_of 12 (record_of far);
      tail = tail_below;
    }

    body_in : body_of Modern s 0 ≡ code
    unfolding body_of tail_of
    body_in =
        let z : List ℕ = zeros_to4 (begin + length code) in
        ap (λ (f : Func). bytes_at s f.begin f.size) func_is
        ∙ bytes_at-is s code begin (length code) refl
        (λ j h.
        tail_byte j (simp length-append (omega arith))
        ∙ get_or-append (code ++ z) (large_header begin (length code)) 0 j (simp length-append (omega arith))
        ∙ get_or-append code z 0 j h)

    strings_in_lem : strings_in s ≡ n
    strings_in_lem = strings_is Modern p fits

    joined-built : Built v text ends code s
    joined-built =
        let b : Bears Modern (given text ends) p.strings s = bears Modern p fits (given text ends) matches in
        let o : overs (place_of ends) n ≡ 0 = overs-zero (place_of ends) n small in
        record {
          admitted = joined_admitted Modern p fits (given text ends) matches placed_in;
          strings = strings_in_lem;
          string = λ i h. read-string Modern (given text ends) p.strings s b i (rw strings_in_lem h);
          place = λ i h. read-place Modern (given text ends) p.strings s b i (rw strings_in_lem h);
          plain = λ i h. flag_is Modern p fits words i ∙ plain i;
          functions = functions_in_lem;
          func = func_is;
          body = body_in;
          kinds = kinds-at Modern p fits ∙ rw (length_head, length-bytes_of 12 (record_of far)) refl;
          small = small_at_lem Modern p fits ∙ front-is;
          storage = storage_at_lem Modern p fits ∙ rw (front-is, o) (omega arith);
          tail = tail_in;
          long = length_in;
          joins = refl;
          version = header-number Modern p fits 8 4 (omega arith) (λ q. absurd (omega arith)) ∙ headed.version;
          debug = debug_in_lem;
          sealed = joined-sealed Modern p fits;
        }

-- ---- every built image

-- a length is answered for what is made, where there is room
length_made : (room n : ℕ) (o : Outcome) → Ok n ≡ answered (roomed room o)
    → (t : List ℕ) × (o ≡ made t) × (roomed room o ≡ made t) × (n ≡ length t)
unfolding roomed
length_made room n (refused k) e = let z : ◌≡◌ {A = ℕ} 0 1 = cc in absurd (omega arith)
length_made room n (made t) e = let (q, m) = go _ (ltb room (length t)) e in (t, refl, q, m)
  where
    go : (k : ℕ) (c : Bool) → Ok n ≡ answered (pick c (refused k) (made t)) → (pick c (refused k) (made t) ≡ made t)
        × (n ≡ length t)
    go k true f = let z : ◌≡◌ {A = ℕ} 0 1 = cc in absurd (omega arith)
    go k false f = (refl, cc)

module _ (v : ℕ) (text ends code : List ℕ) (word : v < 2 ^ 32) (bytes : AllBelow 256 code) where
  -- an image that the builder makes is as promised
  pub built-image : (t : List ℕ) → built v text ends code ≡ made t → Built v text ends code t
  built-image t e =
      let ok = accepted v text ends code (length t) (sym (ap answered e)) in
      let q : minimal v (storage_of text ends) ends code ≡ t = let f = sym ok.makes ∙ e in cc in
      subst (Built v text ends code) (joined_is v text ends code word bytes (length t) ok ∙ q)
      (joined-built v text ends code word bytes (length t) ok)

  -- where build_minimal_modern answers a length, so many first bytes of its buffer are such an image
  pub answered_image : (n : ℕ) (old new : List ℕ) → Answers (roomed (length old) (built v text ends code)) (Ok n) old new
      → Built v text ends code (take n new)
  answered_image n old new a =
      let (t, e, q, m) = length_made (length old) n (built v text ends code) a.0 in
      let w : new ≡ t ++ drop (length t) old = rw q at a.1 in
      subst (Built v text ends code) (sym (rw w (take_at t (drop (length t) old) n (sym m)))) (built-image t e)
