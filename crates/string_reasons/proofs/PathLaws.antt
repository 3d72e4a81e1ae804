-- The path of a value: one law for each way out of the code, and the number that a rebuild meets.
use mathlib.Core.Path.{◌≡◌, refl, ap, sym, ◌∙◌, subst}
use mathlib.Core.Bool.{Bool, true, false, not}
use mathlib.Core.Logic.{inl, inr}
use mathlib.Core.List.{List, [], ◌∷◌}
use Prim.Native.Nat.{ℕ, ◌+◌, ◌≤◌, ◌<◌}
use native.Mathlib.Omega.{arith}
use borrow.Author.Tests.{ne_eqb, eq-eqb, le-ltb, not-true, not-false}
use lib.Dec.{eqb}
use lib.ListN.{length}
use Rattle.bits.specs.Choice.{pick, both, implies, all_below, judge}
use Rattle.bits.specs.Bytes.{ascii}
use Rattle.bits.proofs.TestLaws.{which}
use Rattle.bits.proofs.PassLaws.{pass_next}
use Rattle.format.specs.declared.Layout.{Layout}
use Rattle.format.specs.declared.Mode.{Mode}
use Rattle.format.specs.Entry as entry
use Rattle.footer.specs.Finalize.{size_limit}
use Rattle.image.specs.Sections.{strings_in}
use Rattle.image.specs.Strings.{size_of, place_at}
use Rattle.sections.specs.declared.Places.{Places}
use Rattle.sections.specs.Places.{Laid}
use Rattle.sections.proofs.SectionLaws.{Sectioned, sectioned}
use Rattle.string_tables.specs.declared.Place.{Place}
use Rattle.string_tables.specs.Strings.{as_place}
use Rattle.string_walk.specs.Places.{Lies}
use Rattle.string_overlap.specs.Overlap.{overlap, is_apart, is_alone}
use Rattle.string_overlap.proofs.OverlapLaws.{apart-is}
use Rattle.string_edits.specs.Values.{Values, only}
use Rattle.string_edits.specs.Lists.{values_listed}
use Rattle.string_edits.proofs.TurnLaws.{turn_only}
use Rattle.string_in_place.specs.Patch.{fits_in_place, fits_all, new_length, patch_fits, result_checks}
use Rattle.string_rebuild.specs.declared.Plan.{Plan}
use Rattle.string_rebuild.specs.Ready.{Planned, plan_refusal}
use Rattle.string_rebuild.proofs.JudgeLaws.{planned_length, refusal_roomless}
use Rattle.strings.proofs.PassLaws.{one_values}
use Rattle.string_reasons.specs.declared.Reason.{Reason}
use Rattle.string_reasons.specs.declared.Reason.TheVariants.{InPlace, Wide, NotAscii, Lengths, Overlap}
use Rattle.string_reasons.specs.Reasons.{lowest_overlap, path_of}
use Rattle.string_reasons.specs.Facts.{over_old, anew, way_for}
use Rattle.string_reasons.proofs.OverlapLaws.{lowest_is, lowest_none, none_alone, some_shared}

-- ---- the overlaps, by the places that an index tells

module _ (p : Places) (s : List ℕ) (laid : Laid p s) (id i : ℕ) (own other : Place) (this : Lies p s id own)
    (that : Lies p s i other) (r : Bool) (e : r ≡ implies (not (eqb i id)) (not (overlap (as_place own) (as_place other)))) where
  told : r ≡ is_apart p.layout s id i
  told = apart-is p s id i own other r (record { placed = laid.placed; this = this; that = that; tested = e })

  pub overlaps_here : all_below i (is_apart p.layout s id) ≡ true → i < p.strings → not r ≡ true
      → i ≡ lowest_overlap p.layout s id
  overlaps_here a h t =
      let z : Sectioned p s = sectioned p s laid.placed in
      lowest_is p.layout s id i a (omega (arith, z.strings)) (sym told ∙ not-true r t)

  pub apart_next : all_below i (is_apart p.layout s id) ≡ true → not r ≡ false
      → all_below (i + 1) (is_apart p.layout s id) ≡ true
  apart_next a t = pass_next (is_apart p.layout s id) i r told t a

pub overlaps_none : (p : Places) (s : List ℕ) → Laid p s → (id i : ℕ) → i ≡ p.strings
    → all_below i (is_apart p.layout s id) ≡ true → i ≡ lowest_overlap p.layout s id
overlaps_none p s laid id i e a =
    let z : Sectioned p s = sectioned p s laid.placed in
    let k : i ≡ strings_in s = omega (arith, z.strings) in
    k ∙ sym (lowest_none p.layout s id (rw k at a))

-- ---- the path, by what is known of entry and value

module _ (l : Layout) (s : List ℕ) (id : ℕ) (value : List ℕ) where
  abbrev pub is_of_length : Bool
  is_of_length = eqb (length value) (size_of (place_at l s id))

  pub path_goes : fits_in_place l s id value ≡ true → path_of l s id value ≡ InPlace
  unfolding path_of
  path_goes t = rw t

  pub path_wide : (place_at l s id).wide ≡ true → path_of l s id value ≡ Wide
  unfolding path_of fits_in_place
  path_wide t = rw t

  module _ (narrow : (place_at l s id).wide ≡ false) where
    pub path_not-ascii : ascii value ≡ false → path_of l s id value ≡ NotAscii
    unfolding path_of fits_in_place
    path_not-ascii f = rw (narrow, f)

    module _ (plain : ascii value ≡ true) where
      pub path_lengths : is_of_length ≡ false → path_of l s id value ≡ Lengths (size_of (place_at l s id)) (length value)
      unfolding path_of fits_in_place
      path_lengths f = rw (f, plain, narrow)

      module _ (same : is_of_length ≡ true) where
        pub path_overlap : is_alone l s id ≡ false → path_of l s id value ≡ Overlap (lowest_overlap l s id)
        unfolding path_of fits_in_place
        path_overlap f = rw (same, f, plain, narrow)

        pub path_alone : is_alone l s id ≡ true → path_of l s id value ≡ InPlace
        unfolding path_of fits_in_place
        path_alone t = rw (same, t, plain, narrow)

  -- where the value does not fit, all strings are packed anew
  pub path_anew : fits_in_place l s id value ≡ false → way_for (path_of l s id value) ≡ anew
  unfolding path_of
  path_anew f = rw f (go (place_at l s id).wide (ascii value) is_of_length)
    where
      go : (w a e : Bool) → way_for (pick w Wide (pick (not a) NotAscii (pick (not e) (Lengths (size_of (place_at l s id)) (length value))
          (Overlap (lowest_overlap l s id))))) ≡ anew
      go true a e = refl
      go false true true = refl
      go false true false = refl
      go false false e = refl

  -- so the path is in place only where it fits
  pub path_fits : path_of l s id value ≡ InPlace → fits_in_place l s id value ≡ true
  path_fits e = elim (which (fits_in_place l s id value)) [
    | inl t ↦ t
    | inr f ↦ let g : over_old ≡ anew = sym (ap way_for e) ∙ path_anew f in let z : ◌≡◌ {A = ℕ} 0 1 = cc in absurd (omega arith)
  ]

-- ---- and by what the code has

module _ (p : Places) (s : List ℕ) (laid : Laid p s) (id : ℕ) (value : List ℕ) (own : Place) (lies : Lies p s id own) where
  abbrev path : Reason
  path = path_of p.layout s id value

  wide_is : (place_at p.layout s id).wide ≡ own.wide
  wide_is = ap (λ (q : entry.Place). q.wide) (sym lies.is)

  pub finds_wide : own.wide ≡ true → Wide ≡ path
  finds_wide t = sym (path_wide p.layout s id value (wide_is ∙ t))

  module _ (narrow : own.wide ≡ false) where
    -- a narrow string has as many bytes as it counts
    size_is : size_of (place_at p.layout s id) ≡ own.count
    size_is = ap size_of (sym lies.is) ∙ rw narrow (omega arith)

    module _ (a : Bool) (e : a ≡ ascii value) where
      pub finds_other : not a ≡ true → NotAscii ≡ path
      finds_other t = sym (path_not-ascii p.layout s id value (wide_is ∙ narrow) (sym e ∙ not-true a t))

      module _ (valid : not a ≡ false) where
        plain : ascii value ≡ true
        plain = sym e ∙ not-false a valid

        pub finds_lengths : (length value ≡ own.count → ⊥) → Lengths own.count (length value) ≡ path
        finds_lengths d =
            let f : is_of_length p.layout s id value ≡ false
            = ne_eqb (length value) (size_of (place_at p.layout s id)) (λ g. d (g ∙ size_is)) in
            ap (λ (n : ℕ). Lengths n (length value)) (sym size_is)
            ∙ sym (path_lengths p.layout s id value (wide_is ∙ narrow) plain f)

        module _ (same : length value ≡ own.count) (other : ℕ) (f : other ≡ lowest_overlap p.layout s id) where
          z : Sectioned p s
          z = sectioned p s laid.placed

          long : is_of_length p.layout s id value ≡ true
          long = eq-eqb (length value) (size_of (place_at p.layout s id)) (same ∙ sym size_is)

          pub finds_overlap : other < p.strings → Overlap other ≡ path
          finds_overlap h =
              let g : lowest_overlap p.layout s id < strings_in s = omega (arith, z.strings, f) in
              ap Overlap f
              ∙ sym (path_overlap p.layout s id value (wide_is ∙ narrow) plain long (some_shared p.layout s id g))

          pub finds_none : p.strings ≤ other → InPlace ≡ path
          finds_none h =
              let g : strings_in s ≤ lowest_overlap p.layout s id = omega (arith, z.strings, f) in
              sym (path_alone p.layout s id value (wide_is ∙ narrow) plain long (none_alone p.layout s id g))

-- ---- the numbers of a rebuild

module _ (m : Mode) (l : Layout) (s : List ℕ) (id : ℕ) (value : List ℕ) where
  -- one edit of a string that is there: all fit where it does
  pub fits_one : id < strings_in s → fits_all l s (only id value) ≡ fits_in_place l s id value
  unfolding fits_all
  fits_one h = turn_only id value (λ i x b. both (fits_in_place l s i x) b) true (strings_in s) h ∙ go (fits_in_place l s id value)
    where
      go : (b : Bool) → both b true ≡ b
      go true = refl
      go false = refl

  -- in place none is met
  pub in_place_none : fits_all l s (only id value) ≡ true → length s ≤ size_limit → judge (result_checks m l s (only id value)) ≡ 0
  unfolding judge new_length patch_fits
  in_place_none t h = rw (t, le-ltb size_limit (length s) h)

-- ---- the plan for one edit

module _ (m : Mode) (p : Places) (s : List ℕ) (id : ℕ) (value : List ℕ) (plan : Plan) where
  pub one_planned : Planned m p s (values_listed (id ∷ []) value (length value ∷ [])) plan → Planned m p s (only id value) plan
  one_planned h = subst (λ (v : Values). Planned m p s v plan) (one_values id value) h

  module _ (pl : Planned m p s (only id value) plan) where
    pub plan_rises : plan.tail ≤ plan.length
    plan_rises = omega (arith, planned_length m p s (only id value) plan pl)

  -- what it meets in the room that it asks for is what the patch is refused with, whatever the room
  pub plan_judged : Laid p s → id < p.strings → fits_in_place p.layout s id value ≡ false → Planned m p s (only id value) plan
      → plan_refusal p s plan plan.length ≡ judge (result_checks m p.layout s (only id value))
  plan_judged laid h moves pl =
      let z : Sectioned p s = sectioned p s laid.placed in
      refusal_roomless m p s (only id value) plan laid (fits_one m p.layout s id value (omega (arith, z.strings)) ∙ moves) pl
