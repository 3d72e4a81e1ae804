-- Values over the bytes of their strings.
use Rattle.std.specs.Prelude.{Err, Result}
use mathlib.Core.Path.{◌≡◌, refl, ap, sym, ◌∙◌}
use mathlib.Core.Bool.{Bool, true, false, not}
use mathlib.Core.Logic.{inl, inr}
use mathlib.Core.Option.{some}
use mathlib.Core.List.{List}
use Prim.Native.Nat.{ℕ, ◌+◌, ◌-◌, ◌≤◌, ◌<◌}
use native.Mathlib.Omega.{arith}
use borrow.Author.Tests.{not-true, not-false, eqb-true, le-ltb}
use lib.Dec.{eqb}
use lib.ListN.{length, take, drop}
use borrow.Rule.Slice.PartMut.{put_mid}
use lib.Seq.{sets, length-sets}
use Rattle.bits.specs.Choice.{both, judge}
use Rattle.bits.specs.Bytes.{ascii}
use Rattle.bits.specs.Outcome.{Answers, made, roomed}
use Rattle.bits.proofs.TestLaws.{which, both_0, both_1, both_of}
use Rattle.bits.proofs.WriteLaws.{sets_all}
use Rattle.format.specs.declared.Layout.{Layout}
use Rattle.format.specs.declared.Mode.{Mode}
use Rattle.format.specs.Entry as entry
use Rattle.footer.specs.Finalize.{size_limit}
use Rattle.image.specs.Sections.{strings_in, storage_at}
use Rattle.image.specs.Strings.{size_of, place_at}
use Rattle.sections.specs.declared.Places.{Places}
use Rattle.sections.specs.Places.{Placed}
use Rattle.sections.proofs.SectionLaws.{Sectioned, sectioned}
use Rattle.string_overlap.specs.Overlap.{is_alone, are_in_row}
use Rattle.string_overlap.proofs.OverlapLaws.{row_alone}
use Rattle.string_tables.specs.Strings.{as_place}
use Rattle.string_walk.specs.declared.StringRecord.{StringRecord}
use Rattle.string_walk.specs.Places.{Stands}
use Rattle.string_walk.proofs.RecordLaws.{start_is, record_inside}
use Rattle.string_walk.specs.declared.Cursor.{Cursor}
use Rattle.string_edits.specs.Values.{Values, all_edited}
use Rattle.string_edits.specs.Told.{Told, values_in}
use Rattle.string_edits.proofs.TurnLaws.{turn_keeps, edited_at, edited_of}
use Rattle.string_in_place.specs.Known.{sized_at, tested, Overwritten, Finishable}
use Rattle.string_in_place.specs.Patch.{fits_in_place, fits_all, over_old, in_place, changed, finished, patched_in_place, patched_strings}
use Rattle.string_in_place.specs.Patch.{new_length, patch_fits, patch_known}
use Rattle.string_in_place.proofs.FinishLaws.{answers_over, length-finished, Makes, room_short, room-written}

-- ---- the test of one value

-- the test by size, and the one by overlaps
abbrev is_sized : Layout → List ℕ → ℕ → List ℕ → Bool
is_sized = tested false

abbrev is_own : Layout → List ℕ → ℕ → List ℕ → Bool
is_own = tested true

module _ (l : Layout) (s : List ℕ) (id : ℕ) (value : List ℕ) where
  -- a value goes over a string's bytes if it passes both
  fits-is : both (is_sized l s id value) (is_own l s id value) ≡ fits_in_place l s id value
  unfolding fits_in_place
  fits-is = go (not (place_at l s id).wide) (ascii value) (eqb (length value) (size_of (place_at l s id)))
    where
      go : (a b c : Bool) → both (both a (both b c)) (is_alone l s id) ≡ both a (both b (both c (is_alone l s id)))
      go true true c = refl
      go true false c = refl
      go false b c = refl

  -- by what the code answers for each
  module _ (a : Bool) (e : a ≡ is_sized l s id value) where
    pub not_sized : not a ≡ true → false ≡ fits_in_place l s id value
    not_sized f = rw (← fits-is, ← e, not-true a f)

    pub sized_then : not a ≡ false → (b : Bool) → b ≡ is_own l s id value → b ≡ fits_in_place l s id value
    sized_then f b g = rw (← fits-is, ← e, not-false a f) g

  fits_sized : fits_in_place l s id value ≡ true → is_sized l s id value ≡ true
  fits_sized t = both_0 (is_sized l s id value) (is_own l s id value) (fits-is ∙ t)

  fits_own : fits_in_place l s id value ≡ true → is_own l s id value ≡ true
  fits_own t = both_1 (is_sized l s id value) (is_own l s id value) (fits-is ∙ t)

  pub fits-size : fits_in_place l s id value ≡ true → length value ≡ size_of (place_at l s id)
  fits-size t =
      let q = place_at l s id in
      let c = eqb (length value) (size_of q) in
      eqb-true (length value) (size_of q) (both_1 (ascii value) c (both_1 (not q.wide) (both (ascii value) c) (fits_sized t)))

-- ---- and of all

module _ (l : Layout) (s : List ℕ) (v : Values) where
  -- where all fit, all pass either test
  all_of_fit : (overlaps : Bool) → fits_all l s v ≡ true → all_edited v (tested overlaps l s) (strings_in s) ≡ true
  unfolding fits_all
  all_of_fit overlaps t =
      edited_of v (tested overlaps l s) (strings_in s)
      (λ i h x g. go overlaps i x (edited_at v (fits_in_place l s) (strings_in s) i x t h g))
    where
      go : (b : Bool) (i : ℕ) (x : List ℕ) → fits_in_place l s i x ≡ true → tested b l s i x ≡ true
      go true i x f = fits_own l s i x f
      go false i x f = fits_sized l s i x f

  all_of_tests : all_edited v (is_sized l s) (strings_in s) ≡ true → all_edited v (is_own l s) (strings_in s) ≡ true
      → fits_all l s v ≡ true
  unfolding fits_all
  all_of_tests a b =
      edited_of v (fits_in_place l s) (strings_in s)
      (λ i h x g.
      sym (fits-is l s i x)
      ∙ both_of (is_sized l s i x) (is_own l s i x) (edited_at v (is_sized l s) (strings_in s) i x a h g)
      (edited_at v (is_own l s) (strings_in s) i x b h g))

  -- so where one fails a test, not all fit
  fails_of : (overlaps : Bool) → all_edited v (tested overlaps l s) (strings_in s) ≡ false → false ≡ fits_all l s v
  fails_of overlaps f = elim (which (fits_all l s v)) [
    | inl t ↦ sym f ∙ all_of_fit overlaps t ∙ sym t
    | inr t ↦ sym t
  ]

  pub not_all_sized : (r : Bool) → r ≡ all_edited v (is_sized l s) (strings_in s) → not r ≡ true → false ≡ fits_all l s v
  not_all_sized r e f = fails_of false (sym e ∙ not-true r f)

  -- and where all are sized, the overlaps decide
  pub all_sized : (r : Bool) → r ≡ all_edited v (is_sized l s) (strings_in s) → not r ≡ false
      → all_edited v (is_own l s) (strings_in s) ≡ fits_all l s v
  all_sized r e f = elim (which (all_edited v (is_own l s) (strings_in s))) [
    | inl t ↦ t ∙ sym (all_of_tests (sym e ∙ not-false r f) t)
    | inr t ↦ t ∙ fails_of true t
  ]

-- where all strings stand in a row, each edited one has its bytes for itself
pub row_own : (l : Layout) (s : List ℕ) (v : Values) (r : Bool) → r ≡ are_in_row l s → r ≡ true
    → true ≡ all_edited v (is_own l s) (strings_in s)
row_own l s v r e t = sym (edited_of v (is_own l s) (strings_in s) (λ i h x g. row_alone l s (sym e ∙ t) i h))

-- ---- the bytes

module _ (l : Layout) (s : List ℕ) (v : Values) (fits : fits_all l s v ≡ true) where
  -- each value has the size of its string
  pub value-size : (i : ℕ) (x : List ℕ) → i < strings_in s → v i ≡ some x → length x ≡ size_of (place_at l s i)
  unfolding fits_all
  value-size i x h g = fits-size l s i x (edited_at v (fits_in_place l s) (strings_in s) i x fits h g)

module _ (p : Places) (s : List ℕ) (id : ℕ) (own : StringRecord) (laid : Placed p s) (st : Stands p s id own) where
  -- over the string's bytes, by its record
  pub over_own : (x out : List ℕ) → sets out own.start x ≡ over_old p.layout s id x out
  unfolding over_old
  over_own x out =
      rw (start_is p s laid id own st) (ap (λ (q : entry.Place). sets out (storage_at p.layout s + q.at) x) st.place.is)

  pub own_within : (x : List ℕ) → length x ≡ size_of (place_at p.layout s id) → own.start + length x ≤ length s
  own_within x e = omega (arith, e, ap size_of st.place.is, record_inside p s laid id own st)

  -- the code's test of a value is that of its string
  pub sized_own : (x : List ℕ) → sized_at (as_place own.place) x ≡ tested false p.layout s id x
  sized_own x = ap (λ (q : entry.Place). sized_at q x) st.place.is

length_over : (l : Layout) (s : List ℕ) (v : Values) (out : List ℕ) → length (in_place l s v out) ≡ length out
unfolding in_place over_old
length_over l s v out =
    turn_keeps v (over_old l s) out length (strings_in s) (λ i x b. length-sets b (storage_at l s + (place_at l s i).at) x)

-- ---- the whole

module _ (p : Places) (s : List ℕ) (edits : Told) (text ends : List ℕ) (c : Cursor) (ov : Overwritten p s edits text ends c) where
  abbrev gets : Values
  gets = values_in edits text ends

  abbrev done : List ℕ
  done = patched_in_place p.layout s gets

  within : Sectioned p s
  within = sectioned p s ov.given.laid.placed

  pub finishable : Finishable p (length s)
  finishable = record { slots = omega (arith, within); least = omega (arith, within); limit = omega (arith, within) }

  length_done : length done ≡ length s
  unfolding patched_in_place
  length_done =
      let e : length (in_place p.layout s gets s) ≡ length s = length_over p.layout s gets s in
      length-finished p.layout s gets (in_place p.layout s gets s) (omega (arith, e, finishable.least)) ∙ e

  -- the image is copied to a buffer of its length, the values are put over, and the end is finalized
  pub in_place_lem : (out o₁ o₂ o₃ : List ℕ) (r : Result ℕ ℕ) → length out ≡ length s → o₁ ≡ sets out 0 s
      → o₂ ≡ in_place p.layout s gets o₁
      → Answers (made (finished p.layout s gets o₂)) r o₂ o₃ → Answers (made done) r out o₃
  unfolding patched_in_place
  in_place_lem out o₁ o₂ o₃ r n e f a =
      let o : o₁ ≡ s = e ∙ sets_all s out (sym n) in
      let b : o₂ ≡ in_place p.layout s gets s = f ∙ ap (in_place p.layout s gets) o in
      let k : length o₂ ≡ length s = ap length b ∙ length_over p.layout s gets s in
      rw (← b)
      (answers_over (finished p.layout s gets o₂) o₂ out o₃ r
      (sym (length-finished p.layout s gets o₂ (omega (arith, k, finishable.least))))
      (n ∙ sym k ∙ sym (length-finished p.layout s gets o₂ (omega (arith, k, finishable.least)))) a)

  -- in a buffer of any length
  makes : Makes (made done) done (length s)
  makes = record { is = refl; long = length_done }

  pub in_short : (out : List ℕ) → length out < length s → Answers (roomed (length out) (made done)) (Err 13) out out
  in_short out h = room_short _ done out (length s) makes h

  pub in_room : (out : List ℕ) → length s ≤ length out → (part : List ℕ) (r : Result ℕ ℕ)
      → Answers (made done) r (take (length s - 0) (drop 0 out)) part
      → Answers (roomed (length out) (made done)) r out (put_mid 0 (length s - 0) out part)
  in_room out h part r a = room-written _ done out (length s) makes h part r a

  -- nothing else is refused, whatever the mode
  pub known_in_place : (m : Mode) → patch_known m p.layout s gets ≡ made done
  unfolding patch_known judge new_length patch_fits patched_strings changed patched_in_place
  known_in_place m = rw (ov.fits, le-ltb size_limit (length s) (sectioned p s ov.given.laid.placed).most)
