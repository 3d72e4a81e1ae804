-- Values that fit go over the old bytes of their strings: each stands apart from every other string, so that every edited string has its
-- value and all else is as it was. 02, No. 4: "in place if every edit could be in place on the image as given".
use mathlib.Core.Path.{◌≡◌, refl, ap, sym, ◌∙◌, subst}
use mathlib.Core.Bool.{true, false, not}
use mathlib.Core.Logic.{inl, inr, ◌≢◌}
use mathlib.Core.Option.{none, some}
use mathlib.Core.List.{List}
use Prim.Native.Nat.{ℕ, suc, ◌+◌, ◌-◌, ◌≤◌, ◌<◌}
use native.Mathlib.Omega.{arith}
use borrow.Author.Tests.{ne_eqb, eqb-true, ltb-false, lt-ltb, not-true}
use lib.Dec.{ltb, eqb}
use lib.ListN.{length, get_or}
use lib.Seq.{sets, length-sets}
use Rattle.bits.specs.Choice.{both, implies}
use Rattle.bits.specs.Bytes.{bytes_at, ascii}
use Rattle.bits.proofs.TestLaws.{below, below_or, both_0, both_1, imp_use, all_at}
use Rattle.bits.proofs.ListLaws.{AllBelow, below_sets}
use Rattle.bits.proofs.WriteLaws.{sets_off, sets_in, bytes_at_off, bytes_at_back}
use Rattle.format.specs.declared.Layout.{Layout}
use Rattle.format.specs.declared.Mode.{Mode}
use Rattle.format.specs.Table as table
use Rattle.format.specs.Move.{moved}
use Rattle.format.proofs.MoveLaws.{moved-low, moved-high}
use Rattle.footer.specs.Footer.{footer_length}
use Rattle.image.specs.Sections.{identifiers_in, strings_in, storage_in, debug_in, kinds_at, hashes_at, small_at, storage_at, tail_at}
use Rattle.image.specs.Strings.{place_at, size_of, string_of}
use Rattle.image.specs.Kinds.{hash_in}
use Rattle.image.specs.Functions.{func_of}
use Rattle.image.specs.Admitted.{Disjoint, Admitted}
use Rattle.image.proofs.PlaceLaws.{debug-at, ordered}
use Rattle.edits.proofs.SlotLaws.{func_eq}
use Rattle.edits.proofs.ReadLaws.{Agree, number_agree, functions_same, kind_count-same, identifier_count-same, string_count-same}
use Rattle.edits.proofs.ReadLaws.{hash_same, identifier_same, rank_same, counts_of, storage_at-same, tail_at-same}
use Rattle.edits.proofs.ReadLaws.{SameEntries, place_same, string-same}
use Rattle.edits.proofs.KeepLaws.{Same, funcs_same, same_admitted}
use Rattle.edits.proofs.InPlaceLaws.{InPlace, string-in-place}
use Rattle.string_edits.specs.Values.{Values}
use Rattle.string_edits.proofs.TurnLaws.{some_or_none, Gets, turn_along, edited_at}
use Rattle.string_packing.specs.Strings.{as_string, new_string}
use Rattle.string_overlap.specs.Overlap.{overlap, is_apart, is_alone}
use Rattle.string_in_place.specs.Patch.{fits_in_place, fits_all, over_old, in_place}
use Rattle.patches.specs.Patches.{Target, to_values}
use Rattle.patches.specs.Promise.{place_after, function_after, Unmoved, Kept}
use Rattle.patches.proofs.CalmLaws.{same_body}
use Rattle.patches.proofs.ValueLaws.{ascii_below}

-- a place that moves from where it goes to stays
pub moved_still : (a p : ℕ) → moved a a p ≡ p
moved_still a p = elim (below_or p a) [ inl h ↦ moved-low a a p h | inr h ↦ moved-high a a p h ∙ omega arith ]

-- and not none
gets_some : (v : Values) (n i : ℕ) (value : List ℕ) → Gets v n i value → v i ≡ none → ⊥
gets_some v n i value g q =
    let z : none ≡ some value = sym q ∙ g.gets in
    let y : ◌≡◌ {A = ℕ} 0 1 = cc in
    omega arith

-- where string i stands in an image
abbrev pub spot : Layout → List ℕ → ℕ → ℕ
spot l s i = storage_at l s + (place_at l s i).at

-- ---- one string: "entry narrow, value ASCII, byte lengths equal, and no other entry overlaps"

module _ (l : Layout) (s : List ℕ) (id : ℕ) (value : List ℕ) (fit : fits_in_place l s id value ≡ true) where
  pub narrow : (place_at l s id).wide ≡ false
  unfolding fits_in_place
  narrow = not-true (place_at l s id).wide (both_0 (not (place_at l s id).wide) _ fit)

  others : both (ascii value) (both (eqb (length value) (size_of (place_at l s id))) (is_alone l s id)) ≡ true
  unfolding fits_in_place
  others =
      both_1 (not (place_at l s id).wide) (both (ascii value) (both (eqb (length value) (size_of (place_at l s id))) (is_alone l s id))) fit

  pub plain : ascii value ≡ true
  plain = both_0 (ascii value) _ others

  last : both (eqb (length value) (size_of (place_at l s id))) (is_alone l s id) ≡ true
  last = both_1 (ascii value) (both (eqb (length value) (size_of (place_at l s id))) (is_alone l s id)) others

  pub sized : length value ≡ size_of (place_at l s id)
  sized = eqb-true (length value) (size_of (place_at l s id))
      (both_0 (eqb (length value) (size_of (place_at l s id))) (is_alone l s id) last)

  pub alone : (j : ℕ) → j < strings_in s → j ≢ id → overlap (place_at l s id) (place_at l s j) ≡ false
  unfolding is_alone is_apart
  alone j h d =
      let t : is_alone l s id ≡ true = both_1 (eqb (length value) (size_of (place_at l s id))) (is_alone l s id) last in
      not-true (overlap (place_at l s id) (place_at l s j))
      (imp_use (not (eqb j id)) (not (overlap (place_at l s id) (place_at l s j)))
      (all_at (λ k. implies (not (eqb k id)) (not (overlap (place_at l s id) (place_at l s k)))) (strings_in s) j t h) (rw (ne_eqb j id d)))

  -- the value shares no byte with another string
  pub apart : (j : ℕ) → j < strings_in s → j ≢ id → Disjoint (spot l s id) (length value) (spot l s j) (size_of (place_at l s j))
  apart j h d q =
      let a = place_at l s id in
      let b = place_at l s j in
      let o : both (ltb a.at (b.at + size_of b)) (ltb b.at (a.at + size_of a)) ≡ false = alone j h d in
      let y : ltb a.at (b.at + size_of b) ≡ true = lt-ltb a.at (b.at + size_of b) (omega arith) in
      let z : ltb b.at (a.at + size_of a) ≡ false = rw y at o in
      omega (arith, ltb-false b.at (a.at + size_of a) z, sized)

  pub written : Admitted l s → id < strings_in s → InPlace l s (spot l s id) value
  written ad known = string-in-place l s ad (place_at l s id).at value (rw sized (ad.stored id known)) (ascii_below value plain)

-- ---- all that get a value, each in its turn

-- an admitted image, and values that all fit
pub record AllFit (l : Layout) (s : List ℕ) (v : Values) : Type 0 where
  pub admitted : Admitted l s
  pub fits : fits_all l s v ≡ true

module _ (l : Layout) (s : List ℕ) (v : Values) (all : AllFit l s v) where
  ad : Admitted l s
  ad = all.admitted

  pub fits_each : (i : ℕ) (value : List ℕ) → Gets v (strings_in s) i value → fits_in_place l s i value ≡ true
  unfolding fits_all
  fits_each i value g = edited_at v (fits_in_place l s) (strings_in s) i value all.fits g.known g.gets

  -- the first n values are off byte p
  abbrev Clear : ℕ → ℕ → Type 0
  Clear n p = (i : ℕ) (value : List ℕ) → Gets v n i value → spot l s i ≤ p → spot l s i + length value ≤ p

  -- the image x after the first n turns
  record Over (n : ℕ) (x : List ℕ) : Type 0 where
    long : length x ≡ length s
    bytes : AllBelow 256 x
    ascii : (p : ℕ) → get_or s p 0 < 0x80 → get_or x p 0 < 0x80
    off : (p : ℕ) → Clear n p → get_or x p 0 ≡ get_or s p 0
    own : (i : ℕ) (value : List ℕ) → Gets v n i value → bytes_at x (spot l s i) (length value) ≡ value

  over_none : Over 0 s
  over_none = record {
    long = refl;
    bytes = ad.bytes;
    ascii = λ p h. h;
    off = λ p c. refl;
    own = λ i value g. absurd (omega (arith, g.known));
  }

  later : (n i : ℕ) (value : List ℕ) → Gets v n i value → Gets v (suc n) i value
  later n i value g = record { known = omega (arith, g.known); gets = g.gets }

  over_skip : (n : ℕ) (x : List ℕ) → v n ≡ none → Over n x → Over (suc n) x
  over_skip n x q k = record {
    long = k.long;
    bytes = k.bytes;
    ascii = k.ascii;
    off = λ p c. k.off p (λ i value g. c i value (later n i value g));
    own = λ i value g. elim (below i n g.known) [
      | inl e ↦ absurd (gets_some v (suc n) i value g (ap v e ∙ q))
      | inr h ↦ k.own i value (record { known = h; gets = g.gets })
    ];
  }

  over_next_lem : (n : ℕ) (value x : List ℕ) → Gets v (strings_in s) n value → Over n x → Over (suc n) (over_old l s n value x)
  unfolding over_old
  over_next_lem n value x g k =
      let fit = fits_each n value g in
      let at : ℕ = spot l s n in
      let low : AllBelow 0x80 value = ascii_below value (plain l s n value fit) in
      let room : at + length value ≤ length x = omega (arith, (written l s n value fit ad g.known).fits, k.long) in
      record {
        long = length-sets x at value ∙ k.long;
        bytes = below_sets 256 (omega arith) value x at (λ p. omega (arith, low p)) k.bytes;
        ascii = λ p z. elim (below_or p at) [
          | inl h ↦ rw (sets_off value x at p (λ q. omega arith)) (k.ascii p z)
          | inr h ↦ elim (below_or p (at + length value)) [
            | inl f ↦ let i : at + (p - at) ≡ p = omega arith in
                subst (λ (r : ℕ). get_or (sets x at value) r 0 < 0x80) i
                (rw (sets_in value x at (p - at) room (omega arith)) (low (p - at)))
            | inr f ↦ rw (sets_off value x at p (λ q. f)) (k.ascii p z)
          ]
        ];
        off = λ p c. sets_off value x at p (c n value (record { known = omega arith; gets = g.gets }))
            ∙ k.off p (λ i other f. c i other (later n i other f));
        own = λ i other f. elim (below i n f.known) [
          | inl q ↦ let z : some other ≡ some value = sym f.gets ∙ ap v q ∙ g.gets in
              let y : other ≡ value = cc in
              rw (q, y) (bytes_at_back value x at room)
          | inr q ↦
              let h : i < strings_in s = omega (arith, g.known) in
              let size = sized l s i other (fits_each i other (record { known = h; gets = f.gets })) in
              bytes_at_off value x at (spot l s i) (length other)
              (λ r. apart l s n value fit i h (λ z. omega arith) (omega (arith, size)))
              ∙ k.own i other (record { known = q; gets = f.gets })
        ];
      }

  abbrev x : List ℕ
  x = in_place l s v s

  over_all : Over (strings_in s) x
  unfolding in_place
  over_all = turn_along v (over_old l s) s Over (strings_in s) over_none over_skip over_next_lem

  -- bytes outside storage stay
  pub keeps : (from to : ℕ) → (storage_at l s < to → storage_at l s + storage_in s ≤ from) → Agree s x from to
  keeps from to o p h k =
      over_all.off p (λ i value g q.
      omega (arith, o (omega arith), ad.stored i g.known, sized l s i value (fits_each i value g)))

  pub same : Same l s x
  same =
      let o = ordered l s in
      let front : (from to : ℕ) → to ≤ storage_at l s → Agree s x from to
      = λ from to h. keeps from to (λ g. absurd (omega arith)) in
      let head : table.header_length ≤ storage_at l s = omega (arith, o.kinds, o.hashes, o.small, o.over, o.storage) in
      let d = table.place_in l (table.debug_row l) in
      let w = (table.debug_row l).width in
      record {
        long = over_all.long;
        bytes = over_all.bytes;
        magic = front 0 8 (omega (arith, head));
        tabled = record {
          words = front 40 64 (omega (arith, head));
          kinds = front (kinds_at l s) (hashes_at l s) (omega (arith, o.small, o.over, o.storage));
          tables = front (small_at l s) (storage_at l s) (omega arith);
          ascii = λ i h n j k. over_all.ascii (spot l s i + j) (ad.narrow i h n j k);
        };
        debug = number_agree s x d (d + w) (front d (d + w) (omega (arith, head, debug-at l))) d w (omega arith) (omega arith);
        records = front _ _ (omega (arith, o.hashes, o.small, o.over, o.storage));
        headers = λ i h u p f k. keeps p (suc p) (λ g. omega (arith, o.tail, (ad.header i h u).0)) p (omega arith) (omega arith);
      }

  entries : SameEntries l s x
  entries = record { words = same.tabled.words; tables = same.tabled.tables; counted = ad.overflows }

  string-put : (i : ℕ) → i < strings_in s → string_of l x i ≡ new_string (v i) (string_of l s i)
  unfolding as_string string_of
  string-put i h = elim (some_or_none (v i)) [
    | inl q ↦ rw q (string-same l s x entries i h (λ p f g.
        over_all.off p (λ j value k r.
        let d : i ≢ j = λ z. gets_some v (strings_in s) j value k (ap v (sym z) ∙ q) in
        omega (arith, apart l s j value (fits_each j value k) i h d (omega arith)))))
    | inr (value, q) ↦
        let gets : Gets v (strings_in s) i value = record { known = h; gets = q } in
        let fit = fits_each i value gets in
        rw (q, place_same l s x entries i h, storage_at-same l s x same.tabled.words, ← sized l s i value fit, plain l s i value fit)
        (λ t. record { wide = narrow l s i value fit t; bytes = over_all.own i value gets t })
  ]

  module _ (m : Mode) where
    abbrev c : Target
    c = to_values m v

    still : (p : ℕ) → place_after l s c p ≡ p
    still p = rw all.fits (moved_still (tail_at l s) p)

    pub in_place_kept : Kept l s x c
    in_place_kept =
        let o = ordered l s in
        let words = same.tabled.words in
        let counts = counts_of l s x words in
        let tail = keeps (tail_at l s) (length s - footer_length) (λ g. o.tail) in
        record {
          admitted = same_admitted l s x ad same;
          functions = functions_same l s x counts;
          kinds = kind_count-same l s x counts;
          identifiers = identifier_count-same l s x counts;
          strings = string_count-same l s x counts;
          string = string-put;
          body = same_body l s x ad (record { same = same; tail = tail });
          flag = identifier_same l s x counts same.tabled.kinds;
          rank = rank_same l s x counts same.tabled.kinds;
          function = λ i h.
              funcs_same l s x ad same i h
              ∙ func_eq (func_of l s i) (function_after l s c i (func_of l s i))
              (record {
                large = refl;
                ptr = sym (still (func_of l s i).ptr);
                begin = sym (still (func_of l s i).begin);
                size = refl;
                info = sym (still (func_of l s i).info);
              });
          debug = same.debug ∙ sym (still (debug_in l s));
          long = over_all.long ∙ sym (still (length s));
          tail = λ p h f b q. (
            rw (still p, tail_at-same l s x words) h,
            rw (still p, over_all.long) f,
            rw (still p) (tail p h (omega arith)),
          );
        }

  pub in_place_unmoved : Unmoved l s x
  in_place_unmoved = place_same l s x entries

  pub in_place_hash : (r : ℕ) → r < identifiers_in s → hash_in l x r ≡ hash_in l s r
  in_place_hash =
      let o = ordered l s in
      hash_same l s x (counts_of l s x same.tabled.words)
      (keeps (hashes_at l s) (small_at l s) (λ g. absurd (omega (arith, o.over, o.storage))))
