-- The reason is the true one: what it states holds, nothing before it does, and the patcher takes the way that it tells. There is always
-- one such reason, and no second.
use mathlib.Core.Path.{◌≡◌, refl, ap, sym, ◌∙◌, subst}
use mathlib.Core.Bool.{Bool, true, false}
use mathlib.Core.Logic.{inl, inr, ◌≢◌, ◌↔◌}
use mathlib.Core.List.{List}
use Prim.Native.Nat.{ℕ, ◌≤◌, ◌<◌}
use native.Mathlib.Omega.{arith}
use borrow.Author.Tests.{ne_eqb, eqb-true, eqb-false, le-ltb}
use lib.Dec.{eqb}
use lib.ListN.{length}
use Rattle.refusals.specs.Order.{of_reason, turn_in}
use Rattle.bits.specs.Choice.{pick}
use Rattle.bits.specs.Bytes.{ascii}
use Rattle.bits.specs.Outcome.{Outcome, refused, made, roomed}
use Rattle.bits.proofs.TestLaws.{which, below_or}
use Rattle.format.specs.declared.Layout.{Layout}
use Rattle.format.specs.declared.Mode.{Mode}
use Rattle.image.specs.Sections.{strings_in}
use Rattle.image.specs.Strings.{size_of, place_at}
use Rattle.string_overlap.specs.Overlap.{is_alone}
use Rattle.string_index.specs.Index.{words_for}
use Rattle.string_edits.specs.Values.{only}
use Rattle.edits.specs.Rebuild.{rebuild}
use Rattle.string_packing.specs.Strings.{strings_with}
use Rattle.string_in_place.specs.Patch.{fits_in_place, fits_all, in_place, changed, finished, patched_in_place, patched_strings}
use Rattle.strings.specs.Patch.{by_id_refusal, patch_by_id}
use Rattle.patches.specs.Faults.PatchFault.{no_string}
use Rattle.string_reasons.specs.declared.Reason.{Reason}
use Rattle.string_reasons.specs.declared.Reason.TheVariants.{Refused, InPlace, Wide, NotAscii, Lengths, Overlap}
use Rattle.string_reasons.specs.Reasons.{lowest_overlap, path_of, reason_refusal, reason_of}
use Rattle.string_reasons.specs.Facts.{ReasonFault, of_patch, Fact, turn_of, First, refuses, over_old, anew}
use Rattle.string_reasons.specs.Facts.{way_of, made_by, way_for, Rebuilds, Enough, Taken, TrueReason, short_index}
use Rattle.string_reasons.proofs.OverlapLaws.{false-true}
use Rattle.string_reasons.proofs.PathLaws.{is_of_length, path_goes, path_wide, path_not-ascii, path_lengths, path_overlap, path_anew}
use Rattle.string_reasons.proofs.PathLaws.{fits_one}
use Rattle.string_reasons.proofs.FactLaws.{ascii-not, not_plain, lowest_overlaps, overlaps_lowest, overlaps_shared}
use Rattle.string_reasons.proofs.FactLaws.{goes_fits, fits_goes, not_alone}
use Rattle.string_reasons.proofs.NumberLaws.{turn_most, number_exactly, fault_numbered, fault_refused, no_fault, as_patch}

-- ---- the first reason

module _ (m : Mode) (l : Layout) (s : List ℕ) (words id : ℕ) (value : List ℕ) where
  abbrev number : ℕ
  number = reason_refusal m l s words id value

  is_number : 0 < number → reason_of m l s words id value ≡ Refused number
  unfolding reason_of
  is_number h = rw (ne_eqb number 0 (λ e. omega arith))

  is_path : number ≡ 0 → reason_of m l s words id value ≡ path_of l s id value
  unfolding reason_of
  is_path e = rw e

  abbrev IsFirst : Reason → Type 0
  IsFirst = First m l s words id value

  -- what is so of every reason that is due before turn k
  record NoneBefore (k : ℕ) : Type 0 where
    pub refusal : number ≡ 0
    pub in_place : turn_of InPlace < k → fits_in_place l s id value ≡ false
    pub wide : turn_of Wide < k → (place_at l s id).wide ≡ false
    pub not_ascii : turn_of NotAscii < k → ascii value ≡ true
    pub lengths : turn_of (Lengths 0 0) < k → is_of_length l s id value ≡ true
    pub last : k ≤ turn_of (Overlap 0)

  -- where nothing before it is so, a reason that is so is first
  first_of : (r : Reason) → NoneBefore (turn_of r) → Fact m l s words id value r → IsFirst r
  first_of r n x = record { holds = x; none = go }
    where
      go : (q : Reason) → turn_of q < turn_of r → Fact m l s words id value q → ⊥
      go (Refused k) h y = omega (arith, fault_refused m l s words id value k y, n.refusal)
      go InPlace h y = false-true (fits_in_place l s id value) (n.in_place h) (goes_fits l s id value y)
      go Wide h y = false-true (place_at l s id).wide (n.wide h) y
      go NotAscii h y = false-true (ascii value) (not_plain value y) (n.not_ascii h)
      go (Lengths entry new) h y =
          y.2 (y.0 ∙ sym (eqb-true (length value) (size_of (place_at l s id)) (n.lengths h)) ∙ sym y.1)
      go (Overlap i) h y = omega (arith, n.last)

  -- so the path is, where there is no number
  module _ (none : number ≡ 0) where
    first_path : IsFirst (path_of l s id value)
    first_path = elim (which (fits_in_place l s id value)) [
      | inl t ↦ subst IsFirst (sym (path_goes l s id value t))
          (first_of InPlace (record {
            refusal = none;
            in_place = λ h. absurd (omega arith);
            wide = λ h. absurd (omega arith);
            not_ascii = λ h. absurd (omega arith);
            lengths = λ h. absurd (omega arith);
            last = omega arith;
          }) (fits_goes l s id value t))
      | inr moves ↦ elim (which (place_at l s id).wide) [
        | inl t ↦ subst IsFirst (sym (path_wide l s id value t))
            (first_of Wide (record {
              refusal = none;
              in_place = λ h. moves;
              wide = λ h. absurd (omega arith);
              not_ascii = λ h. absurd (omega arith);
              lengths = λ h. absurd (omega arith);
              last = omega arith;
            }) t)
        | inr narrow ↦ elim (which (ascii value)) [
          | inr f ↦ subst IsFirst (sym (path_not-ascii l s id value narrow f))
              (first_of NotAscii (record {
                refusal = none;
                in_place = λ h. moves;
                wide = λ h. narrow;
                not_ascii = λ h. absurd (omega arith);
                lengths = λ h. absurd (omega arith);
                last = omega arith;
              }) (ascii-not value f))
          | inl plain ↦ elim (which (is_of_length l s id value)) [
            | inr f ↦ subst IsFirst (sym (path_lengths l s id value narrow plain f))
                (first_of (Lengths (size_of (place_at l s id)) (length value)) (record {
                  refusal = none;
                  in_place = λ h. moves;
                  wide = λ h. narrow;
                  not_ascii = λ h. plain;
                  lengths = λ h. absurd (omega arith);
                  last = omega arith;
                }) (refl, refl, λ e. eqb-false (length value) (size_of (place_at l s id)) f (sym e)))
            | inl same ↦ let shared : is_alone l s id ≡ false = not_alone l s id value narrow plain same moves in
                subst IsFirst (sym (path_overlap l s id value narrow plain same shared))
                (first_of (Overlap (lowest_overlap l s id)) (record {
                  refusal = none;
                  in_place = λ h. moves;
                  wide = λ h. narrow;
                  not_ascii = λ h. plain;
                  lengths = λ h. same;
                  last = omega arith;
                }) (lowest_overlaps l s id shared))
          ]
        ]
      ]
    ]

  -- and the number is, where there is one
  module _ (some : 0 < number) where
    first_number : IsFirst (Refused number)
    first_number =
        let (x, before) = (number_exactly m l s words id value number some).0 refl in
        record { holds = x; none = go before }
      where
        go : ((k : ℕ) → turn_in of_reason k < turn_in of_reason number → ReasonFault m l s words id value k → ⊥) → (q : Reason)
            → turn_of q < turn_in of_reason number → Fact m l s words id value q → ⊥
        go before (Refused k) h y = before k h y
        go before InPlace h y = omega (arith, turn_most of_reason number)
        go before Wide h y = omega (arith, turn_most of_reason number)
        go before NotAscii h y = omega (arith, turn_most of_reason number)
        go before (Lengths entry new) h y = omega (arith, turn_most of_reason number)
        go before (Overlap i) h y = omega (arith, turn_most of_reason number)

  -- WHAT IS ANSWERED IS THE FIRST REASON
  pub reason_first : IsFirst (reason_of m l s words id value)
  reason_first = elim (below_or 0 number) [
    | inl h ↦ subst IsFirst (sym (is_number h)) (first_number h)
    | inr h ↦ let e : number ≡ 0 = omega arith in subst IsFirst (sym (is_path e)) (first_path e)
  ]

  -- ---- and there is no second

  -- what is known of a path that is first: no number
  none_refused : (r : Reason) → length of_reason < turn_of r → IsFirst r → number ≡ 0
  none_refused r h x =
      no_fault m l s words id value (λ n y. x.none (Refused n) (omega (arith, turn_most of_reason n)) y)

  narrow_of : (r : Reason) → turn_of Wide < turn_of r → IsFirst r → (place_at l s id).wide ≡ false
  narrow_of r h x = elim (which (place_at l s id).wide) [ inl t ↦ absurd (x.none Wide h t) | inr f ↦ f ]

  plain_of : (r : Reason) → turn_of NotAscii < turn_of r → IsFirst r → ascii value ≡ true
  plain_of r h x = elim (which (ascii value)) [ inl t ↦ t | inr f ↦ absurd (x.none NotAscii h (ascii-not value f)) ]

  length-of : (r : Reason) → turn_of (Lengths 0 0) < turn_of r → IsFirst r → is_of_length l s id value ≡ true
  length-of r h x = elim (which (is_of_length l s id value)) [
    | inl t ↦ t
    | inr f ↦ absurd (x.none (Lengths (size_of (place_at l s id)) (length value)) h
        (refl, refl, λ e. eqb-false (length value) (size_of (place_at l s id)) f (sym e)))
  ]

  path_is : (r : Reason) → length of_reason < turn_of r → IsFirst r → path_of l s id value ≡ r → reason_of m l s words id value ≡ r
  path_is r h x e = is_path (none_refused r h x) ∙ e

  first_is : (r : Reason) → IsFirst r → reason_of m l s words id value ≡ r
  first_is (Refused n) x = elim (below_or 0 n) [
    | inl h ↦ let e : number ≡ n = (number_exactly m l s words id value n h).1 (x.holds, λ k b y. x.none (Refused k) b y) in
        is_number (omega arith) ∙ ap Refused e
    | inr h ↦ absurd (not-zero n h x.holds)
  ]
    where
      not-zero : (n : ℕ) → n ≤ 0 → ReasonFault m l s words id value n → ⊥
      not-zero n h y = omega (arith, fault_numbered m l s words id value n y)
  first_is InPlace x = path_is InPlace (omega arith) x (path_goes l s id value (goes_fits l s id value x.holds))
  first_is Wide x = path_is Wide (omega arith) x (path_wide l s id value x.holds)
  first_is NotAscii x =
      path_is NotAscii (omega arith) x
      (path_not-ascii l s id value (narrow_of NotAscii (omega arith) x) (not_plain value x.holds))
  first_is (Lengths entry new) x =
      let r : Reason = Lengths entry new in
      let (e, f, d) = x.holds in
      path_is r (omega arith) x
      (path_lengths l s id value (narrow_of r (omega arith) x) (plain_of r (omega arith) x)
      (ne_eqb (length value) (size_of (place_at l s id)) (λ g. d (e ∙ sym g ∙ sym f))) ∙ rw (e, f))
  first_is (Overlap i) x =
      let r : Reason = Overlap i in
      path_is r (omega arith) x
      (path_overlap l s id value (narrow_of r (omega arith) x) (plain_of r (omega arith) x) (length-of r (omega arith) x)
      (overlaps_shared l s id i x.holds.0) ∙ ap Overlap (sym (overlaps_lowest l s id i x.holds.0 x.holds.1)))

  -- THE REASONS ARE COMPLETE AND EXCLUDE EACH OTHER: a reason is answered exactly where it is first
  pub reason_exactly : (r : Reason) → reason_of m l s words id value ≡ r ↔ IsFirst r
  reason_exactly r = (λ e. subst IsFirst e reason_first, λ x. first_is r x)

  pub one_reason : (r q : Reason) → IsFirst r → IsFirst q → r ≡ q
  one_reason r q x y = sym (first_is r x) ∙ first_is q y

  -- ---- the patcher

  -- what a room that is enough leaves as it is
  roomed_enough : (room : ℕ) (o : Outcome) → Enough room o → roomed room o ≡ o
  unfolding roomed
  roomed_enough room (refused n) h = refl
  roomed_enough room (made t) h = rw (le-ltb room (length t) h)

  -- it makes what is made on its way
  made_is : patch_by_id m l s id value ≡ made_by m l s id value (way_of m l s id value)
  unfolding patch_by_id way_of patched_strings changed patched_in_place
  made_is = go (eqb (by_id_refusal m l s id value) 0) (fits_all l s (only id value))
    where
      go : (z f : Bool)
          → ◌≡◌ {A = Outcome} (pick z (made (finished l s (only id value) (pick f (in_place l s (only id value) s)
          (rebuild l (strings_with m l s (only id value)) s)))) (refused (by_id_refusal m l s id value)))
          (made_by m l s id value (pick z (pick f over_old anew) (refuses (by_id_refusal m l s id value))))
      go true true = refl
      go true false = refl
      go false f = refl

  -- the string is there, where there is no number
  known : number ≡ 0 → id < strings_in s
  known e = elim (below_or id (strings_in s)) [
    | inl h ↦ h
    | inr h ↦ absurd (omega (arith, fault_refused m l s words id value 7 (of_patch 0 7 (λ f. omega arith) (no_string m id value h)), e))
  ]

  -- the way that it takes is the one that the path tells, where there is no number
  way_path : by_id_refusal m l s id value ≡ 0 → number ≡ 0 → way_of m l s id value ≡ way_for (path_of l s id value)
  unfolding way_of
  way_path z e = rw (z, fits_one m l s id value (known e)) (elim (which (fits_in_place l s id value)) [
    | inl t ↦ rw (t, path_goes l s id value t)
    | inr f ↦ rw (f, path_anew l s id value f)
  ])

  way_refused : 0 < by_id_refusal m l s id value → way_of m l s id value ≡ refuses (by_id_refusal m l s id value)
  unfolding way_of
  way_refused h = rw (ne_eqb (by_id_refusal m l s id value) 0 (λ f. omega arith))

  way_is : number ≢ 13 → way_of m l s id value ≡ way_for (reason_of m l s words id value)
  way_is d =
      let e : number ≡ by_id_refusal m l s id value = as_patch m l s words id value d in
      elim (below_or 0 number) [
        | inl h ↦ rw (is_number h) (way_refused (omega arith) ∙ ap refuses (sym e))
        | inr h ↦ rw (is_path (omega arith)) (way_path (omega arith) (omega arith))
      ]

  pub reason_taken : reason_of m l s words id value ≢ Refused 13 → Taken m l s id value (reason_of m l s words id value)
  reason_taken d =
      let w : way_of m l s id value ≡ way_for (reason_of m l s words id value)
      = way_is (λ e. d (is_number (omega arith) ∙ ap Refused e)) in
      record {
        way = w;
        makes = λ room h. roomed_enough room (patch_by_id m l s id value) h ∙ made_is ∙ ap (made_by m l s id value) w;
      }

  -- THE REASON IS THE TRUE ONE
  pub reason_true : TrueReason m l s words id value (reason_of m l s words id value)
  reason_true = record { first = reason_first; taken = reason_taken }

  -- ---- exactly, where the index is long enough

  over_old_lem : (r : Reason) → way_for r ≡ over_old → r ≡ InPlace
  over_old_lem (Refused n) e = absurd (let z : ◌≡◌ {A = ℕ} 0 1 = cc in omega arith)
  over_old_lem InPlace e = refl
  over_old_lem Wide e = absurd (let z : ◌≡◌ {A = ℕ} 0 1 = cc in omega arith)
  over_old_lem NotAscii e = absurd (let z : ◌≡◌ {A = ℕ} 0 1 = cc in omega arith)
  over_old_lem (Lengths entry new) e = absurd (let z : ◌≡◌ {A = ℕ} 0 1 = cc in omega arith)
  over_old_lem (Overlap i) e = absurd (let z : ◌≡◌ {A = ℕ} 0 1 = cc in omega arith)

  with_number : (r : Reason) (n : ℕ) → made_by m l s id value (way_for r) ≡ refused n → r ≡ Refused n
  with_number (Refused k) n e = ap Refused (let z : k ≡ n = cc in z)
  with_number InPlace n e = absurd (let z : ◌≡◌ {A = ℕ} 0 1 = cc in omega arith)
  with_number Wide n e = absurd (let z : ◌≡◌ {A = ℕ} 0 1 = cc in omega arith)
  with_number NotAscii n e = absurd (let z : ◌≡◌ {A = ℕ} 0 1 = cc in omega arith)
  with_number (Lengths entry new) n e = absurd (let z : ◌≡◌ {A = ℕ} 0 1 = cc in omega arith)
  with_number (Overlap i) n e = absurd (let z : ◌≡◌ {A = ℕ} 0 1 = cc in omega arith)

  module _ (long : words_for (strings_in s) ≤ words) where
    not_short : ReasonFault m l s words id value 13 → ⊥
    not_short (of_patch room n d x) = d refl
    not_short (short_index h) = omega arith

    no_thirteen : reason_of m l s words id value ≢ Refused 13
    no_thirteen e = not_short ((reason_exactly (Refused 13)).0 e).holds

    way_told : way_of m l s id value ≡ way_for (reason_of m l s words id value)
    way_told = (reason_taken no_thirteen).way

    -- it writes over the old bytes exactly for "in place"
    pub in_place_exactly : way_of m l s id value ≡ over_old ↔ reason_of m l s words id value ≡ InPlace
    in_place_exactly = (λ e. over_old_lem (reason_of m l s words id value) (sym way_told ∙ e), λ e. way_told ∙ ap way_for e)

    -- it packs all strings anew exactly for the four others
    pub anew_exactly : way_of m l s id value ≡ anew ↔ Rebuilds (reason_of m l s words id value)
    anew_exactly = (λ e. sym way_told ∙ e, λ e. way_told ∙ e)

    -- and it refuses with a number exactly for "refused" with that number
    pub refused_exactly : (n : ℕ) → patch_by_id m l s id value ≡ refused n ↔ reason_of m l s words id value ≡ Refused n
    refused_exactly n = (
      λ e. with_number (reason_of m l s words id value) n (sym (made_is ∙ ap (made_by m l s id value) way_told) ∙ e),
      λ e. made_is ∙ ap (made_by m l s id value) (way_told ∙ ap way_for e),
    )
