-- The answer: one law for each way out of the code.
use Rattle.std.specs.Prelude.{Err, Ok, Result}
use mathlib.Core.Path.{◌≡◌, refl, ap, sym, ◌∙◌}
use mathlib.Core.Bool.{Bool, true, false, not}
use mathlib.Core.Logic.{◌≢◌}
use mathlib.Core.List.{List, [], ◌∷◌, ◌++◌}
use Prim.Native.Nat.{ℕ, ◌≤◌, ◌<◌}
use native.Mathlib.Omega.{arith}
use borrow.Author.Tests.{ne_eqb, le-leb, lt-leb, lt-ltb, not-true, not-false}
use lib.Dec.{leb, ltb, eqb}
use lib.ListN.{length}
use Rattle.bits.specs.Choice.{pick, Check, check, judge}
use Rattle.bits.specs.Outcome.{passed}
use Rattle.bits.proofs.TestLaws.{is_found, is-refused}
use Rattle.bits.proofs.JudgeLaws.{judge_append}
use Rattle.format.specs.declared.Layout.{Layout}
use Rattle.format.specs.declared.Mode.{Mode}
use Rattle.footer.specs.Finalize.{size_limit}
use Rattle.utf.specs.Utf8.{is_utf8}
use Rattle.image.specs.Sections.{strings_in}
use Rattle.image.specs.Admission.{checks}
use Rattle.sections.specs.declared.Places.{Places}
use Rattle.sections.specs.Places.{places_of, Laid}
use Rattle.string_index.specs.Index.{words_for, fill_refusal, admitted_as}
use Rattle.string_index.proofs.IndexLaws.{refused_as, laid_as}
use Rattle.string_edits.specs.Values.{only}
use Rattle.string_in_place.specs.Patch.{fits_in_place, new_length, result_checks}
use Rattle.strings.proofs.LongLaws.{too_long}
use Rattle.string_reasons.specs.declared.Reason.{Reason}
use Rattle.string_reasons.specs.declared.Reason.TheVariants.{Refused, InPlace}
use Rattle.string_reasons.specs.Reasons.{path_of, reason_refusal, answer_for, reason_of}
use Rattle.string_reasons.proofs.PathLaws.{path_goes, path_fits, fits_one, in_place_none}

module _ (m : Mode) (l : Layout) (s : List ℕ) (id : ℕ) (value : List ℕ) where
  -- what is judged behind the index
  abbrev behind : List Check
  behind = check 7 (leb (strings_in s) id) ∷ check 8 (not (is_utf8 value)) ∷ result_checks m l s (only id value)

  -- where filling the index is refused, so is this, with the same number; else what is behind it counts
  filled_then : (words : ℕ)
      → reason_refusal m l s words id value ≡ pick (eqb (fill_refusal l s words) 0) (judge behind) (fill_refusal l s words)
  unfolding reason_refusal fill_refusal checks
  filled_then words = judge_append (checks l s ++ (check 13 (ltb words (words_for (strings_in s))) ∷ [])) behind refl

  module _ (x : List ℕ) (r : Result Places ℕ) (e : r ≡ admitted_as l s (length x)) where
    abbrev reason : Reason
    reason = reason_of m l s (length x) id value

    -- the image is refused, or the index is too short
    pub why_refused : (k : ℕ) → r ≡ Err k → Refused k ≡ reason
    unfolding reason_of
    why_refused k f =
        let (h, q) = refused_as l s x r e k f in
        let some : eqb k 0 ≡ false = ne_eqb k 0 (λ z. omega arith) in
        let i : reason_refusal m l s (length x) id value ≡ k = filled_then (length x) ∙ rw (q, some) in
        rw (i, some)

    module _ (p : Places) (f : r ≡ Ok p) where
      laid-at : p ≡ places_of l s
      laid-at = (laid_as l s x r e p f).1

      strings_is : p.strings ≡ strings_in s
      unfolding places_of
      strings_is = ap (λ (q : Places). q.strings) laid-at

      layout_is : p.layout ≡ l
      unfolding places_of
      layout_is = ap (λ (q : Places). q.layout) laid-at

      number_is : reason_refusal m l s (length x) id value ≡ judge behind
      number_is = filled_then (length x) ∙ rw (laid_as l s x r e p f).0

      pub why_absent : p.strings ≤ id → Refused 7 ≡ reason
      unfolding reason_of judge
      why_absent h = rw (number_is, ← strings_is, le-leb p.strings id h)

      module _ (known : id < p.strings) (b : Bool) (t : b ≡ is_utf8 value) where
        pub why_value : not b ≡ true → Refused 8 ≡ reason
        unfolding reason_of judge
        why_value u = rw (number_is, ← strings_is, lt-leb p.strings id known, ← t, not-true b u)

        module _ (valid : not b ≡ false) where
          result_is : judge behind ≡ judge (result_checks m l s (only id value))
          unfolding judge
          result_is = rw (← strings_is, lt-leb p.strings id known, ← t, not-false b valid)

          -- a value that no image holds
          pub why_long : Laid p s → 4294967295 < length value → Refused 11 ≡ reason
          unfolding reason_of judge
          why_long laid h =
              let g : size_limit < new_length m l s (only id value)
              = rw layout_is at (too_long m p s laid id known value (sym t ∙ not-false b valid) h) in
              rw (number_is, result_is, lt-ltb size_limit (new_length m l s (only id value)) g)

          pub why_judged : (a : Reason)
              → a ≡ answer_for (judge (result_checks m p.layout s (only id value))) (path_of p.layout s id value) → a ≡ reason
          unfolding reason_of
          why_judged a g = rw (number_is, result_is) (rw layout_is at g)

-- ---- a path that is judged

module _ (l : Layout) (s : List ℕ) (id : ℕ) (value : List ℕ) (path : Reason) (e : path ≡ path_of l s id value) where
  -- one that is not in place moves the strings
  pub path_moves : path ≢ InPlace → fits_in_place l s id value ≡ false
  path_moves d = go (fits_in_place l s id value) refl
    where
      go : (b : Bool) → fits_in_place l s id value ≡ b → b ≡ false
      go true t = absurd (d (e ∙ path_goes l s id value t))
      go false t = refl

  module _ (m : Mode) where
    abbrev number : ℕ
    number = judge (result_checks m l s (only id value))

    abbrev judged : Reason
    judged = answer_for number (path_of l s id value)

    pub judged_none : (u : Unit {0}) → Ok u ≡ passed number → path ≡ judged
    judged_none u f =
        let (z, q) = is_found number (Ok tt) Err (Ok u) (sym f) (λ k h. let y : ◌≡◌ {A = ℕ} 0 1 = cc in omega arith) in
        rw z e

    pub judged_some : (k : ℕ) → Err k ≡ passed number → Refused k ≡ judged
    judged_some k f =
        let (h, q) = is-refused number (Ok tt) Err (Err k) (sym f) (λ z. let y : ◌≡◌ {A = ℕ} 0 1 = cc in omega arith) in
        let same : number ≡ k = cc in
        rw (ne_eqb number 0 (λ z. omega arith)) (ap Refused (sym same))

  -- one in place meets no number
  pub judged_in_place : (m : Mode) → path ≡ InPlace → id < strings_in s → length s ≤ size_limit
      → path ≡ answer_for (judge (result_checks m l s (only id value))) (path_of l s id value)
  judged_in_place m g h b =
      let t : fits_in_place l s id value ≡ true = path_fits l s id value (sym e ∙ g) in
      rw (in_place_none m l s id value (fits_one m l s id value h ∙ t) b) e
