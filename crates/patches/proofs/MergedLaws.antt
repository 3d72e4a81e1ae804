-- String patches of different strings, all accepted, one after the other: they make what the one patch of all makes, so that their order
-- does not matter. 02, No. 12.
use mathlib.Core.Path.{◌≡◌, refl, ap, sym, ◌∙◌, subst}
use mathlib.Core.Logic.{inl, inr, ◌≢◌}
use mathlib.Core.Option.{some}
use mathlib.Core.List.{List, [], ◌∷◌}
use Prim.Native.Nat.{ℕ, zero, suc, ◌<◌}
use native.Mathlib.Omega.{arith}
use lib.ListN.{length, get_or}
use Rattle.bits.specs.Outcome.{Outcome, made}
use Rattle.format.specs.declared.Layout.{Layout}
use Rattle.format.specs.declared.Mode.{Mode}
use Rattle.image.specs.Admitted.{Admitted}
use Rattle.image.proofs.AdmitLaws.{admitted}
use Rattle.admission.proofs.AnswerLaws.{judged_none}
use Rattle.utf.specs.Utf8.{utf16}
use Rattle.string_find.specs.Find.{find_id}
use Rattle.string_edits.specs.Values.{Values, only, joined, Apart, values_of}
use Rattle.string_edits.proofs.TurnLaws.{some_or_none, none-some, gets_none}
use Rattle.string_in_place.specs.Patch.{patched_strings}
use Rattle.strings.specs.Patch.{by_id_refusal, patch_by_id, by_value_refusal, patch_by_value}
use Rattle.strings.specs.Pass.{pass_refusal, patch_in_pass}
use Rattle.patches.specs.Patches.{Patch, by_id, by_value, in_pass, to_body, outcome_of, Step, step_of, image_after, run, target_of}
use Rattle.patches.specs.Lists.{InBytes}
use Rattle.patches.specs.Orders.{OfStrings, Merged, nothing, set_by, set_at, AllApart, Reordered, TwoOrders}
use Rattle.patches.proofs.StringLaws.{StringsPassed, string_promise}
use Rattle.patches.proofs.StepLaws.{made_of, step_made, id_passed, value_passed, pass_passed}
use Rattle.patches.proofs.ThenLaws.{PatchThen, joined_passed, patch_then}
use Rattle.patches.proofs.ReorderLaws.{Collects, collected_same}

-- ---- one patch

-- a list of bytes of which a string patch is accepted is an admitted image
admitted_by : (m : Mode) (l : Layout) (s : List ℕ) → ((p : ℕ) → get_or s p 0 < 256) → (p : Patch) (t : List ℕ) → OfStrings m p
    → outcome_of l s p ≡ made t → Admitted l s
unfolding outcome_of patch_by_id by_id_refusal patch_by_value by_value_refusal patch_in_pass pass_refusal
admitted_by m l s b (by_id k id value) t o e = admitted l s b (judged_none l s _ (made_of _ _ _ e).0).0
admitted_by m l s b (by_value k old new) t o e = admitted l s b (judged_none l s _ (made_of _ _ _ e).0).0
admitted_by m l s b (in_pass k j n) t o e = admitted l s b (judged_none l s _ (made_of _ _ _ e).0).0
admitted_by m l s b (to_body id body) t o e = absurd o

-- a string patch of an admitted image that makes t
pub record Making (m : Mode) (l : Layout) (s : List ℕ) (p : Patch) (t : List ℕ) : Type 0 where
  pub admitted : Admitted l s
  pub strings : OfStrings m p
  pub bytes : InBytes p
  pub makes : outcome_of l s p ≡ made t

-- t, by what the patch sets
pub making_sets : (m : Mode) (l : Layout) (s : List ℕ) (p : Patch) (t : List ℕ) → Making m l s p t
    → StringsPassed m l s (set_by l s p) × (patched_strings m l s (set_by l s p) ≡ t)
unfolding outcome_of target_of
making_sets m l s (by_id k id value) t g =
    subst (λ (j : Mode). StringsPassed j l s (only id value) × (patched_strings j l s (only id value) ≡ t)) g.strings
    (id_passed l s g.admitted k id value t g.bytes g.makes)
making_sets m l s (by_value k old new) t g =
    let v : Values = only (find_id l s (utf16 old)) new in
    subst (λ (j : Mode). StringsPassed j l s v × (patched_strings j l s v ≡ t)) g.strings
    (value_passed l s g.admitted k old new t g.bytes g.makes)
making_sets m l s (in_pass k e n) t g =
    subst (λ (j : Mode). StringsPassed j l s (values_of e n) × (patched_strings j l s (values_of e n) ≡ t)) g.strings
    (pass_passed l s g.admitted k e n t g.bytes g.makes)
making_sets m l s (to_body id body) t g = absurd g.strings

-- the first of a list
module _ (m : Mode) (l : Layout) (p : Step) (ps : List Step) (s : List ℕ) (g : Merged m l (p ∷ ps) s) where
  abbrev next : List ℕ
  next = image_after (step_of l s p) s

  pub first_made : outcome_of l s p.patch ≡ made next
  first_made =
      let (t, e) = g.accepted.0 in
      step_made l s p t e ∙ ap made (sym (ap (λ (o : Outcome). image_after o s) e))

  pub rest_merged : Merged m l ps next
  rest_merged = record { strings = g.strings.1; bytes = g.bytes.1; accepted = g.accepted.1 }

  pub first_admitted : ((q : ℕ) → get_or s q 0 < 256) → Admitted l s
  first_admitted b = admitted_by m l s b p.patch next g.strings.0 first_made

  pub first_making : Admitted l s → Making m l s p.patch next
  first_making ad = record { admitted = ad; strings = g.strings.0; bytes = g.bytes.0; makes = first_made }

-- ---- what strings get by all of a list

-- one after the other
all_set : Layout → List Step → List ℕ → Values
all_set l [] s = nothing
all_set l (p ∷ ps) s = joined (set_by l s p.patch) (all_set l ps (image_after (step_of l s p) s))

set_from : (l : Layout) (ps : List Step) (s : List ℕ) (i : ℕ) (x : List ℕ) → all_set l ps s i ≡ some x
    → (j : ℕ) × (j < length ps) × (set_at l ps s j i ≡ some x)
unfolding all_set set_at
set_from l [] s i x q = absurd (none-some x q)
set_from l (p ∷ ps) s i x q =
    let u : List ℕ = image_after (step_of l s p) s in
    elim (some_or_none (all_set l ps u i)) [
      | inl n ↦ (0, omega arith, rw n at q)
      | inr (y, n) ↦ let (j, h, e) = set_from l ps u i x (n ∙ rw n at q) in (suc j, omega arith, e)
    ]

pub set_in : (l : Layout) (ps : List Step) (s : List ℕ) (j i : ℕ) (x : List ℕ) → set_at l ps s j i ≡ some x → j < length ps
unfolding set_at
set_in l [] s j i x q = absurd (none-some x q)
set_in l (p ∷ ps) s zero i x q = omega arith
set_in l (p ∷ ps) s (suc j) i x q = omega (arith, set_in l ps (image_after (step_of l s p) s) j i x q)

-- the first of a list and the rest set no string both
first_apart : (l : Layout) (p : Step) (ps : List Step) (s : List ℕ) → AllApart (set_at l (p ∷ ps) s)
    → Apart (set_by l s p.patch) (all_set l ps (image_after (step_of l s p) s))
unfolding set_at
first_apart l p ps s parted i x y a b =
    let (j, h, e) = set_from l ps (image_after (step_of l s p) s) i y b in
    parted 0 (suc j) (λ z. omega arith) i x y a e

rest_apart : (l : Layout) (p : Step) (ps : List Step) (s : List ℕ) → AllApart (set_at l (p ∷ ps) s)
    → AllApart (set_at l ps (image_after (step_of l s p) s))
unfolding set_at
rest_apart l p ps s parted i j d = parted (suc i) (suc j) (λ z. d (omega arith))

set_there : (l : Layout) (ps : List Step) (s : List ℕ) → AllApart (set_at l ps s) → (i j : ℕ) (x : List ℕ) → j < length ps
    → set_at l ps s j i ≡ some x → all_set l ps s i ≡ some x
unfolding all_set set_at
set_there l [] s parted i j x h q = absurd (none-some x q)
set_there l (p ∷ ps) s parted i zero x h q =
    let u : List ℕ = image_after (step_of l s p) s in
    rw (gets_none (set_by l s p.patch) (all_set l ps u) (first_apart l p ps s parted) i x q) q
set_there l (p ∷ ps) s parted i (suc j) x h q =
    rw (set_there l ps (image_after (step_of l s p) s) (rest_apart l p ps s parted) i j x (omega arith) q)

all_collected : (l : Layout) (ps : List Step) (s : List ℕ) → AllApart (set_at l ps s)
    → Collects (all_set l ps s) (set_at l ps s) (length ps)
all_collected l ps s parted = record { from = set_from l ps s; at = set_there l ps s parted }

-- ---- a list that sets no string twice makes what the one patch of all makes

merged : (m : Mode) (l : Layout) (p : Step) (ps : List Step) (s : List ℕ) → Admitted l s → Merged m l (p ∷ ps) s
    → AllApart (set_at l (p ∷ ps) s)
    → StringsPassed m l s (all_set l (p ∷ ps) s) × (run l (p ∷ ps) s ≡ patched_strings m l s (all_set l (p ∷ ps) s))
unfolding run all_set
merged m l p [] s ad g parted =
    let (ok, e) = making_sets m l s p.patch _ (first_making m l p [] s g ad) in
    (ok, sym e)
merged m l p (q ∷ qs) s ad g parted =
    let v : Values = set_by l s p.patch in
    let u : List ℕ = image_after (step_of l s p) s in
    let d : Values = all_set l (q ∷ qs) u in
    let (ok, e) = making_sets m l s p.patch u (first_making m l p (q ∷ qs) s g ad) in
    let ad-u : Admitted l u = subst (Admitted l) e (string_promise m l s v ok).kept.admitted in
    let (ok-u, e-u) = merged m l q qs u ad-u (rest_merged m l p (q ∷ qs) s g) (rest_apart l p (q ∷ qs) s parted) in
    let pt : PatchThen m l s v d
    = record {
      first = ok;
      next = subst (λ (x : List ℕ). StringsPassed m l x d) (sym e) ok-u;
      apart = first_apart l p (q ∷ qs) s parted;
    } in
    (joined_passed m l s v d pt, e-u ∙ ap (λ (x : List ℕ). patched_strings m l x d) (sym e) ∙ patch_then m l s v d pt)

-- the same list in another order sets no string twice either
apart_over : (v w : ℕ → Values) (k : ℕ) → Reordered v w k → ((j i : ℕ) (x : List ℕ) → w j i ≡ some x → j < k)
    → AllApart v → AllApart w
apart_over v w k r within parted i j d a x y p q =
    let i₁ : i < k = within i a x p in
    let j₁ : j < k = within j a y q in
    let n : r.to i ≢ r.to j = λ z. d (sym (r.back_to i i₁) ∙ ap r.back z ∙ r.back_to j j₁) in
    parted (r.to i) (r.to j) n a x y (ap (λ (u : Values). u a) (sym (r.same i i₁)) ∙ p)
    (ap (λ (u : Values). u a) (sym (r.same j j₁)) ∙ q)

-- THE ORDER OF STRING PATCHES DOES NOT MATTER: "both orders end in the same image, byte for byte, footer included"
pub any_order : (m : Mode) (l : Layout) (s : List ℕ) (ps qs : List Step) → TwoOrders m l s ps qs → run l ps s ≡ run l qs s
any_order m l s [] [] o = refl
any_order m l s [] (q ∷ qs) o = absurd (omega (arith, o.long))
any_order m l s (p ∷ ps) [] o = absurd (omega (arith, o.long))
any_order m l s (p ∷ ps) (q ∷ qs) o =
    let ad : Admitted l s = first_admitted m l p ps s o.first o.image in
    let v : ℕ → Values = set_at l (p ∷ ps) s in
    let w : ℕ → Values = set_at l (q ∷ qs) s in
    let within : (j i : ℕ) (x : List ℕ) → w j i ≡ some x → j < length (p ∷ ps)
    = λ j i x e. omega (arith, set_in l (q ∷ qs) s j i x e, o.long) in
    let turned : AllApart w = apart_over v w (length (p ∷ ps)) o.reordered within o.apart in
    let same : all_set l (p ∷ ps) s ≡ all_set l (q ∷ qs) s
    = collected_same (all_set l (p ∷ ps) s) (all_set l (q ∷ qs) s) v w (length (p ∷ ps)) (all_collected l (p ∷ ps) s o.apart)
    (subst (Collects (all_set l (q ∷ qs) s) w) o.long (all_collected l (q ∷ qs) s turned)) o.reordered in
    (merged m l p ps s ad o.first o.apart).1
    ∙ ap (patched_strings m l s) same
    ∙ sym (merged m l q qs s ad o.second turned).1
