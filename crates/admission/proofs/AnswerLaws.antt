-- Admission's answer taken apart: what an image that is laid out promises, and how further checks follow those of admission.
use Rattle.std.specs.Prelude.{Err, Ok, Result}
use mathlib.Core.Path.{◌≡◌, refl, sym, ◌∙◌, ap, subst⁻¹}
use mathlib.Core.Bool.{Bool, true, false}
use mathlib.Core.List.{List, ◌++◌}
use Prim.Native.Nat.{ℕ, ◌<◌}
use native.Mathlib.Omega.{arith}
use lib.Dec.{eqb}
use lib.ListN.{get_or}
use borrow.Author.Tests.{eqb-true, eqb-false, ne_eqb}
use Rattle.bits.specs.Choice.{pick, Check, judge}
use Rattle.bits.proofs.TestLaws.{is_found, is-refused}
use Rattle.bits.proofs.JudgeLaws.{judge_append}
use Rattle.format.specs.declared.Layout.{Layout}
use Rattle.image.specs.Admission.{checks, refusal}
use Rattle.image.specs.Admitted.{Admitted}
use Rattle.image.proofs.AdmitLaws.{admitted}
use Rattle.sections.specs.declared.Places.{Places}
use Rattle.sections.specs.Places.{places_of, Placed}
use Rattle.sections.specs.Places as places
use Rattle.admission.specs.Admission.{admission}

module _ (l : Layout) (s : List ℕ) where
  -- those of a reading or a patch stand behind those of admission
  pub judged_then : (ds : List Check) → judge (checks l s ++ ds) ≡ pick (eqb (refusal l s) 0) (judge ds) (refusal l s)
  unfolding refusal checks
  judged_then ds = judge_append (checks l s) ds refl

  -- where none is met, none of admission is, and none of those
  pub judged_none : (ds : List Check) → judge (checks l s ++ ds) ≡ 0 → (refusal l s ≡ 0) × (judge ds ≡ 0)
  judged_none ds e = go (eqb (refusal l s) 0) refl (sym (judged_then ds) ∙ e)
    where
      go : (b : Bool) → eqb (refusal l s) 0 ≡ b → pick b (judge ds) (refusal l s) ≡ 0 → (refusal l s ≡ 0) × (judge ds ≡ 0)
      go true h q = (eqb-true (refusal l s) 0 h, q)
      go false h q = absurd (eqb-false (refusal l s) 0 h q)

  -- ---- the answer of admission

  module _ (r : Result Places ℕ) (e : r ≡ admission l s) where
    pub refused_is : (k : ℕ) → r ≡ Err k → (refusal l s ≡ k) × (0 < k)
    unfolding admission
    refused_is k f =
        let (h, q)
        =
        is-refused (refusal l s) (Ok (places_of l s)) Err (Err k) (sym e ∙ f)
        (λ z. let y : ◌≡◌ {A = ℕ} 0 1 = cc in omega arith) in
        let z : refusal l s ≡ k = cc in
        (z, omega arith)

    -- the checks behind those of admission do not count
    pub refused_then : (k : ℕ) → r ≡ Err k → (ds : List Check) → judge (checks l s ++ ds) ≡ k
    refused_then k f ds =
        let (z, h) = refused_is k f in
        judged_then ds ∙ rw (z, ne_eqb k 0 (λ y. omega arith))

    module _ (p : Places) (f : r ≡ Ok p) where
      pub laid-is : (refusal l s ≡ 0) × (p ≡ places_of l s)
      unfolding admission
      laid-is =
          let (z, q)
          =
          is_found (refusal l s) (Ok (places_of l s)) Err (Ok p) (sym e ∙ f)
          (λ k z. let y : ◌≡◌ {A = ℕ} 0 1 = cc in omega arith) in
          (z, cc)

      pub laid_then : (ds : List Check) → judge (checks l s ++ ds) ≡ judge ds
      laid_then ds = judged_then ds ∙ rw laid-is.0

      pub laid_layout : p.layout ≡ l
      unfolding places_of
      laid_layout = ap (λ (x : Places). x.layout) laid-is.1

      module _ (bytes : (i : ℕ) → get_or s i 0 < 256) where
        laid_admitted : Admitted p.layout s
        laid_admitted = subst⁻¹ (λ (x : Layout). Admitted x s) laid_layout (admitted l s bytes laid-is.0)

        laid-placed : Placed p s
        laid-placed =
            let a : Admitted p.layout s = laid_admitted in
            record {
              is = laid-is.1 ∙ ap (λ (x : Layout). places_of x s) (sym laid_layout);
              fits = record { most = a.most; room = a.room };
            }

        -- so that whoever is answered with places has an admitted image
        pub is-laid : places.Laid p s
        is-laid = record { placed = laid-placed; admitted = laid_admitted }
