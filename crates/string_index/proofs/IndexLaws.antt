-- The index of an image: what a pass fills in, what it tells, and that a look-up in it equals the walk; the answers of filling and of a
-- look-up, one law for each way out.
use Rattle.std.specs.Prelude.{Err, Ok, Result}
use mathlib.Core.Path.{◌≡◌, refl, ap, sym, ◌∙◌, subst⁻¹}
use mathlib.Core.Bool.{Bool, true, false}
use mathlib.Core.Logic.{inl, inr}
use mathlib.Core.List.{List, [], ◌∷◌}
use Prim.Native.Nat.{ℕ, ◌+◌, ◌/◌, ◌%◌, ◌≤◌, ◌<◌}
use native.Mathlib.Nat.{zero-add}
use native.Mathlib.Omega.{arith}
use borrow.Author.Tests.{lt-ltb, le-ltb, le-leb, lt-leb, ltb-false, ne_eqb}
use lib.Dec.{ltb, eqb}
use lib.ListN.{length, get_or}
use lib.Seq.{sets, sets-eq, length-sets}
use Rattle.bits.specs.Choice.{pick, check, judge}
use Rattle.bits.proofs.JudgeLaws.{judge_pass}
use Rattle.bits.proofs.TestLaws.{below_or, is_found, is-refused}
use Rattle.format.specs.declared.Layout.{Layout}
use Rattle.format.specs.Entry as entry
use Rattle.format.specs.Table.{if_set}
use Rattle.image.specs.Sections.{strings_in, storage_in}
use Rattle.image.specs.Strings.{place_at, size_of}
use Rattle.image.specs.Kinds.{is_identifier}
use Rattle.sections.specs.declared.Places.{Places}
use Rattle.sections.specs.Places.{places_of, Placed}
use Rattle.sections.specs.Places as places
use Rattle.sections.proofs.SectionLaws.{Sectioned, sectioned}
use Rattle.admission.specs.Admission.{admission}
use Rattle.admission.proofs.AnswerLaws.{is-laid, judged_none, refused_is, refused_then, laid-is, laid_then, laid_layout}
use Rattle.string_tables.specs.Strings.{as_place}
use Rattle.string_walk.specs.declared.StringRecord.{StringRecord}
use Rattle.string_walk.specs.Records.{record_of}
use Rattle.string_walk.specs.Places.{Stands}
use Rattle.string_walk.proofs.RankLaws.{ranked_flag}
use Rattle.string_walk.proofs.RecordLaws.{record_is}
use Rattle.string_walk.proofs.WalkLaws.{count_in}
use Rattle.string_index.specs.declared.Entry.{Entry}
use Rattle.string_index.specs.declared.HeldString.{HeldString}
use Rattle.string_index.specs.Index.{flags_of, entry_of, runs, index_of, words_for, fill_refusal, filled_as, index_after, admitted_as}
use Rattle.string_index.specs.Index.{entry_in, look_refusal, look_up, held_of}
use Rattle.string_index.specs.Filling.{put_entries, Indexed, Tells}
use Rattle.string_index.proofs.RunLaws.{all_put, length_runs, read_back}

-- ---- flags

pub flags_sum : (a b : Bool) (x y : ℕ) → x ≡ if_set a 1 → y ≡ if_set b 2 → x + y ≡ flags_of a b
flags_sum true true x y e f = rw (e, f)
flags_sum true false x y e f = rw (e, f)
flags_sum false true x y e f = rw (e, f)
flags_sum false false x y e f = rw (e, f)

wide_back : (a b : Bool) → eqb (flags_of a b % 2) 1 ≡ a
wide_back true true = refl
wide_back true false = refl
wide_back false true = refl
wide_back false false = refl

identifier_back : (a b : Bool) → eqb (flags_of a b / 2) 1 ≡ b
identifier_back true true = refl
identifier_back true false = refl
identifier_back false true = refl
identifier_back false false = refl

-- ---- a string that a pass has come to

-- what is held of a record is what the image has
held_record : (l : Layout) (s : List ℕ) (i : ℕ) → held_of (record_of l s i) ≡ entry_of l s i
unfolding record_of entry_of
held_record l s i = rw (ranked_flag l s i)

module _ (p : Places) (s : List ℕ) (h : Placed p s) (i : ℕ) (r : StringRecord) (g : Stands p s i r) (e : Entry) (f : e ≡ held_of r)
  where
    pub held_is : e ≡ entry_of p.layout s i
    held_is = f ∙ ap held_of (record_is p s h i r g) ∙ held_record p.layout s i

-- ---- the index that a pass has filled

module _ (p : Places) (s : List ℕ) (h : Placed p s) where
  pub strings_are : p.strings ≡ strings_in s
  strings_are = (sectioned p s h).strings

  pub all_filled : (old x : List ℕ) (i : ℕ) → i ≡ p.strings → x ≡ put_entries p.strings (entry_of p.layout s) i old
      → x ≡ sets old 0 (index_of p.layout s)
  unfolding index_of
  all_filled old x i k e = e ∙ rw (k, strings_are) (all_put (strings_in s) (entry_of p.layout s) old)

  pub indexed : (old x : List ℕ) → words_for p.strings ≤ length old → x ≡ sets old 0 (index_of p.layout s) → Indexed p s x
  unfolding index_of
  indexed old x k e =
      record {
        long = omega (arith, ap length e, length-sets old 0 (runs (strings_in s) (entry_of p.layout s)));
        holds = λ i b. rw (e, strings_are) (read_back (strings_in s) (entry_of p.layout s) old
            (omega (arith, strings_are)) i (omega (arith, strings_are)));
      }

-- what it tells of a string is what the walk does
module _ (p : Places) (s : List ℕ) (laid : places.Laid p s) (x : List ℕ) (ix : Indexed p s x) (id : ℕ) (b : id < p.strings)
    (e : Entry) (f : e ≡ entry_in x p.strings id) where
  abbrev told : HeldString
  told =
      record {
        place = record { wide = eqb (e.flags % 2) 1; at = e.offset; count = e.length };
        identifier = eqb (e.flags / 2) 1;
      }

  pub tells : Tells p s id told
  unfolding entry_of
  tells =
      let z : Sectioned p s = sectioned p s laid.placed in
      let q : entry.Place = place_at p.layout s id in
      let t : Bool = is_identifier p.layout s id in
      let g : e ≡ entry_of p.layout s id = f ∙ ix.holds id b in
      let w : eqb (flags_of q.wide t % 2) 1 ≡ q.wide = wide_back q.wide t in
      let k : as_place told.place ≡ q = rw (g, w) in
      let m : q.at + size_of q ≤ storage_in s = laid.admitted.stored id (omega arith) in
      let o : told.place.at + size_of (as_place told.place) ≤ storage_in s
      = subst⁻¹ (λ (y : entry.Place). y.at + size_of y ≤ storage_in s) k m in
      record {
        place = record { is = k; count = count_in (as_place told.place); stored = omega arith; before = omega arith };
        flag = rw g (identifier_back q.wide t);
      }

-- ---- a slice that is shorter than three words for each string

pub short_is : (words n : ℕ) → ltb (words / 3) n ≡ ltb words (words_for n)
short_is words n =
    elim (below_or words (words_for n)) [
      | inl h ↦ lt-ltb (words / 3) n (omega arith) ∙ sym (lt-ltb words (words_for n) h)
      | inr h ↦ le-ltb (words / 3) n (omega arith) ∙ sym (le-ltb words (words_for n) h)
    ]

pub long_enough : (words n : ℕ) (b : Bool) → b ≡ ltb words (words_for n) → b ≡ false → words_for n ≤ words
long_enough words n b e f = ltb-false words (words_for n) (sym e ∙ f)

-- ---- the answers of a look-up

module _ (x : List ℕ) (n i : ℕ) where
  pub no_such : n ≤ i → Err 7 ≡ look_up x n i
  unfolding look_up look_refusal judge
  no_such h = rw (le-leb n i h)

  module _ (h : i < n) (b : Bool) (e : b ≡ ltb (length x) (words_for n)) where
    pub too_short : b ≡ true → Err 13 ≡ look_up x n i
    unfolding look_up look_refusal judge
    too_short t = rw (lt-leb n i h, ← e, t)

    pub found : b ≡ false → (q : Entry) → q ≡ entry_in x n i → Ok q ≡ look_up x n i
    unfolding look_up look_refusal judge
    found t q g = rw (lt-leb n i h, ← e, t, g)

-- ---- the answers of filling

module _ (l : Layout) (s : List ℕ) (r : Result Places ℕ) (e : r ≡ admission l s) (x : List ℕ) where
  pub fill_refused : (k : ℕ) → r ≡ Err k → (Err k ≡ admitted_as l s (length x)) × (x ≡ index_after l s x)
  unfolding admitted_as index_after fill_refusal
  fill_refused k f =
      let i = refused_then l s r e k f (check 13 (ltb (length x) (words_for (strings_in s))) ∷ []) in
      let h : 0 < k = (refused_is l s r e k f).1 in
      rw (i, ne_eqb k 0 (λ y. omega arith)) (refl, refl)

  module _ (p : Places) (f : r ≡ Ok p) (b : Bool) (g : b ≡ ltb (length x) (words_for p.strings)) where
    counted : p.strings ≡ strings_in s
    unfolding places_of
    counted = ap (λ (y : Places). y.strings) (laid-is l s r e p f).1

    own : fill_refusal l s (length x) ≡ pick b 13 0
    unfolding fill_refusal judge
    own =
        laid_then l s r e p f (check 13 (ltb (length x) (words_for (strings_in s))) ∷ [])
        ∙ ap (λ (n : ℕ). pick (ltb (length x) (words_for n)) 13 0) (sym counted)
        ∙ ap (λ (c : Bool). pick c 13 0) (sym g)

    pub fill_short : b ≡ true → (Err 13 ≡ admitted_as l s (length x)) × (x ≡ index_after l s x)
    unfolding admitted_as index_after
    fill_short t = rw (own, t) (refl, refl)

    pub fill_done : b ≡ false → (y : List ℕ) → y ≡ sets x 0 (index_of p.layout s)
        → (Ok p ≡ admitted_as l s (length x)) × (y ≡ index_after l s x)
    unfolding admitted_as index_after index_of
    fill_done t y q =
        let n : List ℕ = runs (strings_in s) (entry_of l s) in
        let size : length n ≡ words_for (strings_in s) = length_runs (strings_in s) (entry_of l s) x in
        let room : length n ≤ length x
        = omega (arith, size, counted, ltb-false (length x) (words_for p.strings) (sym g ∙ t)) in
        let w : y ≡ sets x 0 n = q ∙ ap (λ (k : Layout). sets x 0 (runs (strings_in s) (entry_of k s))) (laid_layout l s r e p f) in
        rw (own, t) (
          ap Ok (laid-is l s r e p f).1,
          w ∙ sets-eq n x 0 (omega arith) ∙ rw zero-add,
        )

-- ---- the index where filling is not refused

module _ (l : Layout) (s x : List ℕ) (h : fill_refusal l s (length x) ≡ 0) where
  pub room-is : words_for (strings_in s) ≤ length x
  unfolding fill_refusal
  room-is =
      let c = check 13 (ltb (length x) (words_for (strings_in s))) in
      let (z, q) = judged_none l s (c ∷ []) h in
      ltb-false (length x) (words_for (strings_in s)) (judge_pass c [] (omega arith) q).0

  pub after_is : index_after l s x ≡ sets x 0 (index_of l s)
  unfolding index_after index_of
  after_is =
      let n : List ℕ = runs (strings_in s) (entry_of l s) in
      rw h (sym (sets-eq n x 0 (omega (arith, room-is, length_runs (strings_in s) (entry_of l s) x)) ∙ rw zero-add))

-- ---- admission with an index, taken apart

module _ (l : Layout) (s x : List ℕ) (r : Result Places ℕ) (e : r ≡ admitted_as l s (length x)) where
  pub refused_as : (k : ℕ) → r ≡ Err k → (0 < k) × (fill_refusal l s (length x) ≡ k)
  unfolding admitted_as
  refused_as k f =
      let (h, q)
      =
      is-refused (fill_refusal l s (length x)) (Ok (places_of l s)) Err (Err k)
      (sym e ∙ f) (λ z. let y : ◌≡◌ {A = ℕ} 0 1 = cc in omega arith) in
      let z : fill_refusal l s (length x) ≡ k = cc in
      (omega arith, z)

  -- what filling answers has the same number
  pub count_refused : (k : ℕ) → r ≡ Err k → Err k ≡ filled_as l s (length x)
  unfolding filled_as
  count_refused k f =
      let (h, z) = refused_as k f in
      rw (z, ne_eqb k 0 (λ y. omega arith))

  module _ (p : Places) (f : r ≡ Ok p) where
    pub laid_as : (fill_refusal l s (length x) ≡ 0) × (p ≡ places_of l s)
    unfolding admitted_as
    laid_as =
        let (z, q)
        =
        is_found (fill_refusal l s (length x)) (Ok (places_of l s)) Err (Ok p) (sym e ∙ f)
        (λ k z. let y : ◌≡◌ {A = ℕ} 0 1 = cc in omega arith) in
        (z, cc)

    -- and counts the strings of the image
    pub count_filled : Ok p.strings ≡ filled_as l s (length x)
    unfolding filled_as places_of
    count_filled = rw laid_as.0 (ap (λ (y : Places). Ok y.strings) laid_as.1)

    -- the image is admitted
    pub laid_there : ((i : ℕ) → get_or s i 0 < 256) → places.Laid p s
    unfolding fill_refusal admission
    laid_there bytes =
        let (z, _) = judged_none l s (check 13 (ltb (length x) (words_for (strings_in s))) ∷ []) laid_as.0 in
        let g : admission l s ≡ Ok p = rw z (ap Ok (sym laid_as.1)) in
        is-laid l s (admission l s) refl p g bytes

    own_layout : p.layout ≡ l
    unfolding places_of
    own_layout = ap (λ (q : Places). q.layout) laid_as.1

    -- and what was lent is its index
    pub index_there : ((i : ℕ) → get_or s i 0 < 256) → (y : List ℕ) → y ≡ index_after l s x → Indexed p s y
    index_there bytes y g =
        let here : Placed p s = (laid_there bytes).placed in
        indexed p s here x y (omega (arith, strings_are p s here, room-is l s x laid_as.0))
        (g ∙ after_is l s x laid_as.0 ∙ ap (λ (k : Layout). sets x 0 (index_of k s)) (sym own_layout))

-- ---- No. 13: "Looking up in the index must equal the walk, in these three, for every id of an admitted image"

module _ (l : Layout) (s x : List ℕ) (id : ℕ) (h : fill_refusal l s (length x) ≡ 0) (b : id < strings_in s) where
  -- of the index just filled
  pub looked_up_lem : look_up (index_after l s x) (strings_in s) id ≡ Ok (entry_of l s id)
  unfolding look_up look_refusal judge index_of
  looked_up_lem =
      let n : List ℕ = runs (strings_in s) (entry_of l s) in
      let room : words_for (strings_in s) ≤ length x = room-is l s x h in
      rw (
        after_is l s x h,
        lt-leb (strings_in s) id b,
        length-sets x 0 n,
        le-ltb (length x) (words_for (strings_in s)) room,
        read_back (strings_in s) (entry_of l s) x room id b,
      )

  -- `record_of` is what the walk to string id answers
  pub as_the_walk : look_up (index_after l s x) (strings_in s) id ≡ Ok (held_of (record_of l s id))
  as_the_walk = looked_up_lem ∙ ap Ok (sym (held_record l s id))
