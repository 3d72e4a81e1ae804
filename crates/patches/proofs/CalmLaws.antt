-- Writes behind a patch that change no meaning: the file length and the footer.
use mathlib.Core.Path.{◌≡◌, ap, sym, ◌∙◌}
use mathlib.Core.List.{List}
use Prim.Native.Nat.{ℕ, suc, ◌+◌, ◌-◌, ◌*◌, ◌≤◌, ◌<◌}
use native.Mathlib.Omega.{arith}
use lib.ListN.{length}
use Rattle.bits.specs.Bytes.{bytes_at}
use Rattle.bits.specs.Outcome.{made}
use Rattle.bits.proofs.ListLaws.{AllBelow}
use Rattle.format.specs.declared.Layout.{Layout}
use Rattle.format.specs.declared.Mode.{Mode}
use Rattle.format.specs.Entry.{Place}
use Rattle.format.specs.Table as table
use Rattle.footer.specs.Footer.{footer_length}
use Rattle.footer.specs.Finalize.{lengthed, sealed, finalize_of, Sealed}
use Rattle.footer.proofs.FinalizeLaws.{finalize_within, finalize_length, finalize_keeps}
use Rattle.footer.proofs.SealLaws.{finalize_below, finalize_sealed}
use Rattle.image.specs.Sections.{functions_in, kinds_in, identifiers_in, strings_in, storage_in, debug_in, hashes_at, small_at, storage_at}
use Rattle.image.specs.Sections.{tail_at}
use Rattle.image.specs.Strings.{place_at, size_of, string_of}
use Rattle.image.specs.Kinds.{is_identifier, rank_of, hash_in}
use Rattle.image.specs.Functions.{Func, func_of, body_of}
use Rattle.image.specs.Admitted.{Admitted}
use Rattle.image.proofs.PlaceLaws.{records_at, debug-at, debug_past_lem, ordered, string-in}
use Rattle.edits.proofs.ReadLaws.{Agree, bytes_agree, number_agree, functions_same, kind_count-same, identifier_count-same}
use Rattle.edits.proofs.ReadLaws.{string_count-same, hash_same, identifier_same, rank_same, counts_of, storage_size-same, storage_at-same}
use Rattle.edits.proofs.ReadLaws.{tail_at-same, SameEntries, place_same, string-same}
use Rattle.edits.specs.Packing.{gap_of, start_in, end_in, Spaced}
use Rattle.edits.proofs.KeepLaws.{Same, funcs_same, same_admitted}
use Rattle.patches.specs.Patches.{Target}
use Rattle.patches.specs.Promise.{place_after, Kept}

-- t has the places and the storage of s
pub record SameStorage (l : Layout) (s t : List ℕ) : Type 0 where
  pub place : (i : ℕ) → i < strings_in s → place_at l t i ≡ place_at l s i
  pub at : storage_at l t ≡ storage_at l s
  pub size : storage_in t ≡ storage_in s
  pub bytes : Agree s t (storage_at l s) (tail_at l s)

-- t reads as s does: another file length or footer, perhaps other hashes
pub record Calm (l : Layout) (s t : List ℕ) : Type 0 where
  pub admitted : Admitted l t
  pub long : length t ≡ length s
  pub functions : functions_in t ≡ functions_in s
  pub kinds : kinds_in t ≡ kinds_in s
  pub identifiers : identifiers_in t ≡ identifiers_in s
  pub strings : strings_in t ≡ strings_in s
  pub tail : tail_at l t ≡ tail_at l s
  pub storage : SameStorage l s t
  pub string : (i : ℕ) → i < strings_in s → string_of l t i ≡ string_of l s i
  pub body : (i : ℕ) → i < functions_in s → body_of l t i ≡ body_of l s i
  pub flag : (i : ℕ) → is_identifier l t i ≡ is_identifier l s i
  pub rank : (i : ℕ) → rank_of l t i ≡ rank_of l s i
  pub function : (i : ℕ) → i < functions_in s → func_of l t i ≡ func_of l s i
  pub debug : debug_in l t ≡ debug_in l s
  pub bytes : Agree s t (tail_at l s) (length s - footer_length)

-- t has the functions and the tail of s, and so its bodies
pub record SameTail (l : Layout) (s t : List ℕ) : Type 0 where
  pub same : Same l s t
  pub tail : Agree s t (tail_at l s) (length s - footer_length)

pub same_body : (l : Layout) (s t : List ℕ) → Admitted l s → SameTail l s t → (i : ℕ) → i < functions_in s
    → body_of l t i ≡ body_of l s i
unfolding body_of
same_body l s t ad st i h =
    let (x, y) = ad.body i h in
    ap (λ (f : Func). bytes_at t f.begin f.size) (funcs_same l s t ad st.same i h)
    ∙ bytes_agree s t (tail_at l s) (length s - footer_length) st.tail (func_of l s i).begin (func_of l s i).size x (omega arith)

-- ---- an image that differs only in file length, hash slots and footer

pub record Nearly (l : Layout) (s t : List ℕ) : Type 0 where
  pub admitted : Admitted l s
  pub long : length t ≡ length s
  pub bytes : AllBelow 256 t
  pub front : Agree s t 0 (table.file_length).at
  pub head : Agree s t ((table.file_length).at + (table.file_length).width) (hashes_at l s)
  pub rest : Agree s t (small_at l s) (length s - footer_length)

module _ (l : Layout) (s t : List ℕ) (nr : Nearly l s t) where
  ad : Admitted l s
  ad = nr.admitted

  pub same : Same l s t
  same =
      let o = ordered l s in
      record {
        long = nr.long;
        bytes = nr.bytes;
        magic = λ p h k. nr.front p (omega arith) (omega arith);
        tabled = record {
          words = λ p h k. nr.head p (omega arith) (omega (arith, o.kinds, o.hashes));
          kinds = λ p h k. nr.head p (omega (arith, o.kinds)) k;
          tables = λ p h k. nr.rest p h (omega (arith, o.tail, ad.room));
          ascii = λ i h w j k.
              let c : size_of (place_at l s i) ≡ (place_at l s i).count * 1 = rw w in
              rw
              (nr.rest (storage_at l s + (place_at l s i).at + j) (omega (arith, o.over, o.storage))
              (omega (arith, string-in ad i h, ad.room)))
              (ad.narrow i h w j k);
        };
        debug =
            let d = table.place_in l (table.debug_row l) in
            let w = (table.debug_row l).width in
            number_agree s t 36 (hashes_at l s) nr.head d w (omega (arith, debug_past_lem l))
            (omega (arith, debug-at l, o.kinds, o.hashes));
        records = λ p h k. nr.head p (omega (arith, records_at l)) (omega (arith, o.hashes));
        headers = λ i h u p f k.
            nr.rest p (omega (arith, o.over, o.storage, o.tail, (ad.header i h u).0)) (omega (arith, (ad.header i h u).1));
      }

  pub calm : Calm l s t
  calm =
      let o = ordered l s in
      let counts = counts_of l s t same.tabled.words in
      let entries : SameEntries l s t
      = record { words = same.tabled.words; tables = same.tabled.tables; counted = ad.overflows } in
      let tail : Agree s t (tail_at l s) (length s - footer_length)
      = λ p h k. nr.rest p (omega (arith, o.over, o.storage, o.tail)) k in
      record {
        admitted = same_admitted l s t ad same;
        long = nr.long;
        functions = functions_same l s t counts;
        kinds = kind_count-same l s t counts;
        identifiers = identifier_count-same l s t counts;
        strings = string_count-same l s t counts;
        tail = tail_at-same l s t same.tabled.words;
        storage = record {
          place = place_same l s t entries;
          at = storage_at-same l s t same.tabled.words;
          size = storage_size-same l s t same.tabled.words;
          bytes = λ p f k. nr.rest p (omega (arith, o.over, o.storage)) (omega (arith, ad.room));
        };
        string = λ i h.
            string-same l s t entries i h
            (λ p f k. nr.rest p (omega (arith, o.over, o.storage)) (omega (arith, string-in ad i h, ad.room)));
        body = same_body l s t ad (record { same = same; tail = tail });
        flag = identifier_same l s t counts same.tabled.kinds;
        rank = rank_same l s t counts same.tabled.kinds;
        function = funcs_same l s t ad same;
        debug = same.debug;
        bytes = tail;
      }

-- the strings stand as they stood
pub spaced-after : (m : Mode) (l : Layout) (s t : List ℕ) → Calm l s t → Spaced m l s → Spaced m l t
spaced-after m l s t k sp =
    let z : SameStorage l s t = k.storage in
    record {
      first = λ h. start 0 (omega (arith, k.strings)) ∙ sp.first (omega (arith, k.strings));
      next = λ i h.
          let h₁ : suc i < strings_in s = rw k.strings at h in
          start (suc i) h₁ ∙ sp.next i h₁
          ∙ ap (λ (e : ℕ). e + gap_of m (place_at l s (suc i)).wide e) (sym (end i (omega arith)))
          ∙ ap (λ (q : Place). end_in l t i + gap_of m q.wide (end_in l t i)) (sym (z.place (suc i) h₁));
      gap = λ i h p lo hi.
          let h₁ : suc i < strings_in s = rw k.strings at h in
          let a = start (suc i) h₁ in
          let b = end i (omega arith) in
          let e = z.at in
          let o = ordered l s in
          z.bytes p (omega arith) (omega (arith, k.admitted.stored (suc i) h, o.tail, z.size))
          ∙ sp.gap i h₁ p (omega arith) (omega arith);
      last = λ i e.
          let e₁ : suc i ≡ strings_in s = e ∙ k.strings in
          end i (omega arith) ∙ sp.last i e₁ ∙ sym z.size;
    }
  where
    start : (i : ℕ) → i < strings_in s → start_in l t i ≡ start_in l s i
    start i h = ap (λ (q : Place). q.at) (k.storage.place i h)

    end : (i : ℕ) → i < strings_in s → end_in l t i ≡ end_in l s i
    end i h = ap (λ (q : Place). q.at + size_of q) (k.storage.place i h)

-- ---- finalize

module _ (l : Layout) (s : List ℕ) (ad : Admitted l s) where
  abbrev t : List ℕ
  t = sealed (lengthed s)

  long : table.header_length + footer_length ≤ length s
  long = ad.least

  done : finalize_of s ≡ made t
  done = finalize_within s (omega (arith, long)) ad.most

  final_long : length t ≡ length s
  final_long = finalize_length s t done

  pub keeps : (from to : ℕ) → to ≤ length s - footer_length
      → ((table.file_length).at < to → (table.file_length).at + (table.file_length).width ≤ from) → Agree s t from to
  keeps from to h o p f k = finalize_keeps s t done p (omega arith) (λ q. omega (arith, o (omega arith)))

  pub final_nearly : Nearly l s t
  final_nearly =
      let o = ordered l s in
      record {
        admitted = ad;
        long = final_long;
        bytes = finalize_below s t done ad.bytes;
        front = keeps 0 32 (omega (arith, long)) (λ q. absurd (omega arith));
        head = keeps 36 (hashes_at l s) (omega (arith, o.small, o.over, o.storage, o.tail, ad.room)) (λ q. omega arith);
        rest = keeps (small_at l s) (length s - footer_length) (omega arith) (λ q. omega (arith, o.kinds, o.hashes, o.small));
      }

  -- it reads as it did, and every hash slot stays
  pub final_calm : Calm l s t
  final_calm = calm l s t final_nearly

  pub final_hash : (r : ℕ) → r < identifiers_in s → hash_in l t r ≡ hash_in l s r
  final_hash r h =
      let o = ordered l s in
      hash_same l s t (keeps 40 56 (omega (arith, long)) (λ q. omega arith))
      (keeps (hashes_at l s) (small_at l s) (omega (arith, o.over, o.storage, o.tail, ad.room))
      (λ q. omega (arith, o.kinds, o.hashes))) r h

  -- the file length and the footer are those of 01
  pub final_sealed : Sealed t
  final_sealed = finalize_sealed s t done (omega (arith, long))

-- ---- behind a patch

module _ (l : Layout) (s w t : List ℕ) (c : Target) where
  pub kept_after : Kept l s w c → Calm l w t → Kept l s t c
  kept_after k m = record {
    admitted = m.admitted;
    functions = m.functions ∙ k.functions;
    kinds = m.kinds ∙ k.kinds;
    identifiers = m.identifiers ∙ k.identifiers;
    strings = m.strings ∙ k.strings;
    string = λ i h. m.string i (rw k.strings h) ∙ k.string i h;
    body = λ i h. m.body i (rw k.functions h) ∙ k.body i h;
    flag = λ i. m.flag i ∙ k.flag i;
    rank = λ i. m.rank i ∙ k.rank i;
    function = λ i h. m.function i (rw k.functions h) ∙ k.function i h;
    debug = m.debug ∙ k.debug;
    long = m.long ∙ k.long;
    tail = λ p h f b o.
        let (x, y, z) = k.tail p h f b o in
        (rw m.tail x, rw m.long y, m.bytes (place_after l s c p) x (omega arith) ∙ z);
  }
