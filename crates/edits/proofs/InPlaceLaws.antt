-- One write that leaves an image's header, records, kinds, tables and large headers alone: a string in storage, a hash slot, a
-- body of equal length. What was written is read back, every other string, hash slot and body stays, and the result is admitted
-- again.
use mathlib.Core.Path.{◌≡◌, ap, ◌∙◌, subst}
use mathlib.Core.Bool.{true}
use mathlib.Core.Logic.{inl, inr}
use mathlib.Core.List.{List}
use Prim.Native.Nat.{ℕ, ◌+◌, ◌-◌, ◌*◌, ◌^◌, ◌≤◌, ◌<◌}
use native.Mathlib.Omega.{arith}
use lib.ListN.{length, get_or}
use lib.Seq.{sets, length-sets}
use Rattle.bits.specs.Bytes.{bytes_at, bytes_of}
use Rattle.bits.proofs.TestLaws.{below_or}
use Rattle.bits.proofs.ListLaws.{AllBelow, below_sets, below_bytes_of}
use Rattle.bits.proofs.ByteLaws.{length-bytes_of}
use Rattle.bits.proofs.WriteLaws.{sets_off, sets_in, bytes_at_back, number_at_back}
use Rattle.format.specs.declared.Layout.{Layout}
use Rattle.format.specs.Table as table
use Rattle.image.specs.Sections.{functions_in, identifiers_in, strings_in, storage_in, hashes_at, small_at, storage_at}
use Rattle.image.specs.Strings.{place_at, size_of, string_of}
use Rattle.image.specs.Kinds.{is_identifier, rank_of, hash_in}
use Rattle.image.specs.Functions.{Func, func_of, body_of}
use Rattle.image.specs.Admitted.{Disjoint, Admitted}
use Rattle.image.proofs.PlaceLaws.{debug-at, ordered, hash_in_lem}
use Rattle.edits.proofs.ReadLaws.{Agree, bytes_agree, number_agree, hashes_at-same, identifier_same, rank_same, counts_of}
use Rattle.edits.proofs.ReadLaws.{storage_at-same, SameEntries, place_same, string-same}
use Rattle.edits.proofs.KeepLaws.{Same, funcs_same, same_admitted}

-- bytes apart from a write agree
put_agree : (vs s : List ℕ) (at from to : ℕ) → (at < to → at + length vs ≤ from) → Agree s (sets s at vs) from to
put_agree vs s at from to o p h k = sets_off vs s at p (λ g. omega (arith, o (omega arith)))

-- what such a write of an admitted image is asked for
pub record InPlace (l : Layout) (s : List ℕ) (at : ℕ) (vs : List ℕ) : Type 0 where
  pub admitted : Admitted l s
  pub fits : at + length vs ≤ length s
  pub bytes : AllBelow 256 vs
  pub past : hashes_at l s ≤ at
  pub between : at < storage_at l s → at + length vs ≤ small_at l s
  pub ascii : storage_at l s < at + length vs → at < storage_at l s + storage_in s → AllBelow 0x80 vs
  pub headers : 0 < length vs → (j : ℕ) → j < functions_in s → (func_of l s j).large ≡ true
      → Disjoint at (length vs) (func_of l s j).ptr (table.large_row l).width

-- string i stands where the write is
pub record StringAt (l : Layout) (s : List ℕ) (at : ℕ) (vs : List ℕ) (i : ℕ) : Type 0 where
  pub known : i < strings_in s
  pub place : storage_at l s + (place_at l s i).at ≡ at
  pub size : size_of (place_at l s i) ≡ length vs

-- body i does
pub record BodyAt (l : Layout) (s : List ℕ) (at : ℕ) (vs : List ℕ) (i : ℕ) : Type 0 where
  pub known : i < functions_in s
  pub place : (func_of l s i).begin ≡ at
  pub size : (func_of l s i).size ≡ length vs

module _ (l : Layout) (s : List ℕ) (at : ℕ) (vs : List ℕ) (ip : InPlace l s at vs) where
  abbrev t : List ℕ
  t = sets s at vs

  ad : Admitted l s
  ad = ip.admitted

  -- a byte of storage is ASCII where it was
  still_ascii : (p : ℕ) → storage_at l s ≤ p → p < storage_at l s + storage_in s → get_or s p 0 < 0x80 → get_or t p 0 < 0x80
  still_ascii p h k z =
      elim (below_or p at) [
        | inl g ↦ rw (sets_off vs s at p (λ q. omega arith)) z
        | inr g ↦ elim (below_or p (at + length vs)) [
          | inl q ↦ let e : at + (p - at) ≡ p = omega arith in
              subst (λ (r : ℕ). get_or t r 0 < 0x80) e
              (rw (sets_in vs s at (p - at) ip.fits (omega arith)) (ip.ascii (omega arith) (omega arith) (p - at)))
          | inr q ↦ rw (sets_off vs s at p (λ r. q)) z
        ]
      ]

  pub put_same : Same l s t
  put_same =
      let o = ordered l s in
      let front : (from to : ℕ) → to ≤ hashes_at l s → Agree s t from to
      = λ from to h. put_agree vs s at from to (λ g. absurd (omega (arith, ip.past))) in
      record {
        long = length-sets s at vs;
        bytes = below_sets 256 (omega arith) vs s at ip.bytes ad.bytes;
        magic = front 0 8 (omega (arith, o.kinds, o.hashes));
        tabled = record {
          words = front 40 64 (omega (arith, o.kinds, o.hashes));
          kinds = front _ _ (omega arith);
          tables = put_agree vs s at (small_at l s) (storage_at l s) ip.between;
          ascii = λ i h w j k.
              let c : size_of (place_at l s i) ≡ (place_at l s i).count * 1 = rw w in
              still_ascii (storage_at l s + (place_at l s i).at + j) (omega arith) (omega (arith, ad.stored i h)) (ad.narrow i h w j k);
        };
        debug =
            let d = table.place_in l (table.debug_row l) in
            let w = (table.debug_row l).width in
            number_agree s t d (d + w) (front d (d + w) (omega (arith, o.kinds, o.hashes, debug-at l))) d w (omega arith) (omega arith);
        records = front _ _ (omega (arith, o.hashes));
        headers = λ i h u p f k. sets_off vs s at p
            (λ g. elim (below_or 0 (length vs)) [ inl z ↦ omega (arith, ip.headers z i h u (omega arith)) | inr z ↦ omega arith ]);
      }

  same_entries : SameEntries l s t
  same_entries = record { words = put_same.tabled.words; tables = put_same.tabled.tables; counted = ad.overflows }

  pub put_admitted : Admitted l t
  put_admitted = same_admitted l s t ad put_same

  -- ---- what the write does not touch stays

  pub put_place : (i : ℕ) → i < strings_in s → place_at l t i ≡ place_at l s i
  put_place = place_same l s t same_entries

  pub put-string : (i : ℕ) → i < strings_in s → Disjoint at (length vs) (storage_at l s + (place_at l s i).at) (size_of (place_at l s i))
      → string_of l t i ≡ string_of l s i
  put-string i h d =
      string-same l s t same_entries i h
      (put_agree vs s at (storage_at l s + (place_at l s i).at) (storage_at l s + (place_at l s i).at + size_of (place_at l s i)) d)

  pub put_func : (i : ℕ) → i < functions_in s → func_of l t i ≡ func_of l s i
  put_func = funcs_same l s t ad put_same

  pub put-body : (i : ℕ) → i < functions_in s → Disjoint at (length vs) (func_of l s i).begin (func_of l s i).size
      → body_of l t i ≡ body_of l s i
  unfolding body_of
  put-body i h d =
      ap (λ (f : Func). bytes_at t f.begin f.size) (put_func i h)
      ∙ bytes_agree s t (func_of l s i).begin ((func_of l s i).begin + (func_of l s i).size) (put_agree vs s at _ _ d) (func_of l s i).begin
      (func_of l s i).size (omega arith) (omega arith)

  pub put-hash : (r : ℕ) → Disjoint at (length vs) (hashes_at l s + r * 4) 4 → hash_in l t r ≡ hash_in l s r
  unfolding hash_in
  put-hash r d =
      rw (hashes_at-same l s t (counts_of l s t put_same.tabled.words))
      (number_agree s t (hashes_at l s + r * 4) (hashes_at l s + r * 4 + 4) (put_agree vs s at _ _ d) (hashes_at l s + r * 4) 4
      (omega arith)
      (omega arith))

  pub put_identifier : (i : ℕ) → is_identifier l t i ≡ is_identifier l s i
  put_identifier = identifier_same l s t (counts_of l s t put_same.tabled.words) put_same.tabled.kinds

  pub put_rank : (i : ℕ) → rank_of l t i ≡ rank_of l s i
  put_rank = rank_same l s t (counts_of l s t put_same.tabled.words) put_same.tabled.kinds

  -- ---- what is written is read

  pub own_string : (i : ℕ) → StringAt l s at vs i → string_of l t i ≡ record { wide = (place_at l s i).wide; bytes = vs }
  unfolding string_of
  own_string i st =
      rw (
        place_same l s t same_entries i st.known,
        storage_at-same l s t put_same.tabled.words,
        st.place,
        st.size,
      )
      (ap (λ (b : List ℕ). record { wide = (place_at l s i).wide; bytes = b }) (bytes_at_back vs s at ip.fits))

  pub own_body : (i : ℕ) → BodyAt l s at vs i → body_of l t i ≡ vs
  unfolding body_of
  own_body i bo =
      ap (λ (f : Func). bytes_at t f.begin f.size) (put_func i bo.known)
      ∙ rw (bo.place, bo.size) (bytes_at_back vs s at ip.fits)

-- ---- the three writes

-- new bytes for body i, as many as it has
pub record EqualBody (l : Layout) (s : List ℕ) (i : ℕ) (body : List ℕ) : Type 0 where
  pub known : i < functions_in s
  pub equal : length body ≡ (func_of l s i).size
  pub bytes : AllBelow 256 body

module _ (l : Layout) (s : List ℕ) (ad : Admitted l s) where
  -- an ASCII string over as many bytes of storage
  pub string-in-place : (q : ℕ) (value : List ℕ) → q + length value ≤ storage_in s → AllBelow 0x80 value
      → InPlace l s (storage_at l s + q) value
  string-in-place q value h z =
      let o = ordered l s in
      record {
        admitted = ad;
        fits = omega (arith, o.tail, ad.room);
        bytes = λ p. omega (arith, z p);
        past = omega (arith, o.small, o.over, o.storage);
        between = λ g. absurd (omega arith);
        ascii = λ x y. z;
        headers = λ w j k u g. omega (arith, o.tail, (ad.header j k u).0);
      }

  -- a hash slot
  pub hash_in_place : (r x : ℕ) → r < identifiers_in s → InPlace l s (hashes_at l s + r * 4) (bytes_of 4 x)
  hash_in_place r x h =
      let o = ordered l s in
      let n = length-bytes_of 4 x in
      let e = hash_in_lem l s r h in
      record {
        admitted = ad;
        fits = omega (arith, e, o.over, o.storage, o.tail, ad.room, n);
        bytes = below_bytes_of 4 x;
        past = omega arith;
        between = λ g. omega (arith, e, n);
        ascii = λ u v. absurd (omega (arith, e, o.over, o.storage, n));
        headers = λ w j k u g. omega (arith, e, o.over, o.storage, o.tail, (ad.header j k u).0, n);
      }

  -- and its hash is the one written
  pub own_hash : (r x : ℕ) → r < identifiers_in s → x < 2 ^ 32 → hash_in l (sets s (hashes_at l s + r * 4) (bytes_of 4 x)) r ≡ x
  unfolding hash_in
  own_hash r x h k =
      let ip = hash_in_place r x h in
      let n = length-bytes_of 4 x in
      rw (hashes_at-same l s (sets s (hashes_at l s + r * 4) (bytes_of 4 x))
      (counts_of l s (sets s (hashes_at l s + r * 4) (bytes_of 4 x)) (put_same l s (hashes_at l s + r * 4) (bytes_of 4 x) ip).tabled.words))
      (number_at_back s (hashes_at l s + r * 4) 4 x (omega (arith, ip.fits, n)) k)

  -- a body over one of equal length
  pub body_in_place : (i : ℕ) (body : List ℕ) → EqualBody l s i body → InPlace l s (func_of l s i).begin body
  body_in_place i body eq =
      let o = ordered l s in
      let (x, y) = ad.body i eq.known in
      record {
        admitted = ad;
        fits = omega (arith, eq.equal);
        bytes = eq.bytes;
        past = omega (arith, o.small, o.over, o.storage, o.tail);
        between = λ g. absurd (omega (arith, o.tail));
        ascii = λ u v. absurd (omega (arith, o.tail));
        headers = λ w j k u g.
            elim (below_or (func_of l s j).ptr ((func_of l s i).begin + (func_of l s i).size)) [
              | inl q ↦ absurd (omega (arith, ad.clear i j eq.known k (omega (arith, eq.equal)) u q, eq.equal))
              | inr q ↦ omega arith
            ];
      }
