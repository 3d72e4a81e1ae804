-- The modes of a string patch: a rebuild leaves the strings as its mode packs them, and no other patch moves one; where the mode does
-- not matter both answer alike; even mode never makes the shorter image.
use mathlib.Core.Path.{◌≡◌, refl, ap, sym, ◌∙◌, subst}
use mathlib.Core.Bool.{Bool, true, false}
use mathlib.Core.Logic.{inl, inr}
use mathlib.Core.List.{List, [], ◌∷◌}
use Prim.Native.Nat.{ℕ, ◌%◌, ◌≤◌}
use native.Mathlib.Omega.{arith}
use lib.ListN.{length}
use Rattle.bits.specs.Choice.{pick}
use Rattle.bits.specs.Outcome.{Outcome, made}
use Rattle.bits.proofs.TestLaws.{which}
use Rattle.format.specs.declared.Layout.{Layout}
use Rattle.format.specs.declared.Mode.{Mode}
use Rattle.format.specs.declared.Mode.TheVariants.{Plain, Even}
use Rattle.format.specs.Entry.{Place}
use Rattle.format.specs.Move.{moved}
use Rattle.format.proofs.MoveLaws.{moved-high}
use Rattle.image.specs.Sections.{strings_in, tail_at}
use Rattle.image.specs.Strings.{Str, place_at}
use Rattle.image.specs.Admitted.{Admitted}
use Rattle.utf.specs.Utf8.{utf16}
use Rattle.edits.specs.Packing.{NoneOddIn}
use Rattle.edits.specs.Rebuild.{new_tail}
use Rattle.edits.proofs.SpacedLaws.{spaced_even}
use Rattle.edits.proofs.ModeLaws.{same_tail, same_rebuilt, tail_le}
use Rattle.string_edits.specs.Values.{Values, only, values_of}
use Rattle.string_packing.specs.Strings.{string_with, strings_with}
use Rattle.string_find.specs.Find.{find_id}
use Rattle.string_in_place.specs.Patch.{fits_all, changed, patched_strings, new_length, patch_fits}
use Rattle.strings.specs.Patch.{by_id_refusal, patch_by_id, by_value_refusal, patch_by_value}
use Rattle.strings.specs.Pass.{pass_refusal, patch_in_pass}
use Rattle.patches.specs.Patches.{Patch, by_id, by_value, in_pass, to_body, in_mode, outcome_of, Step, step_of, image_after, run}
use Rattle.patches.specs.Patches.{all_in, to_values, target_of}
use Rattle.patches.specs.Promise.{Unmoved, StringPlaces, Modeless, place_after}
use Rattle.patches.specs.Lists.{InBytes, AllInBytes}
use Rattle.patches.proofs.StringLaws.{StringsPassed, string_places}
use Rattle.patches.proofs.BodyLaws.{body_unmoved}
use Rattle.patches.proofs.ExactLaws.{either_way}
use Rattle.patches.proofs.StepLaws.{step_made, id_passed, value_passed, pass_passed, body_passed, patch_promise}

-- a patch in another mode has the same bytes
in_bytes : (m : Mode) (p : Patch) → InBytes p → InBytes (in_mode m p)
in_bytes m (by_id k id value) b = b
in_bytes m (by_value k old new) b = b
in_bytes m (in_pass j e k) b = b
in_bytes m (to_body id body) b = b

-- ---- strings that do not move, or stand as even mode packs them

module _ (l : Layout) (s : List ℕ) where
  unmoved_even : (t : List ℕ) → strings_in t ≡ strings_in s → Unmoved l s t → NoneOddIn l s
      → NoneOddIn l t
  unmoved_even t n un even i h w =
      let e : place_at l t i ≡ place_at l s i = un i (omega (arith, n)) in
      ap (λ (q : Place). q.at % 2) e ∙ even i (omega (arith, n)) (sym (ap (λ (q : Place). q.wide) e) ∙ w)

  strings_even : (v : Values) (t : List ℕ) → strings_in t ≡ strings_in s → StringPlaces l s t (to_values Even v) → NoneOddIn l s
      → NoneOddIn l t
  strings_even v t n (away, still) even = elim (which (fits_all l s v)) [
    | inl f ↦ unmoved_even t n (still f) even
    | inr f ↦ spaced_even l t (away f)
  ]

  places_even : (p : Patch) (t : List ℕ) → strings_in t ≡ strings_in s → StringPlaces l s t (target_of l s (in_mode Even p))
      → NoneOddIn l s → NoneOddIn l t
  unfolding target_of
  places_even (by_id m id value) = strings_even (only id value)
  places_even (by_value m old new) = strings_even (only (find_id l s (utf16 old)) new)
  places_even (in_pass m e k) = strings_even (values_of e k)
  places_even (to_body id body) = unmoved_even

-- ---- where the strings stand

module _ (l : Layout) (s : List ℕ) (ad : Admitted l s) where
  strings_stand : (m : Mode) (v : Values) (t : List ℕ) → StringsPassed m l s v × (patched_strings m l s v ≡ t)
      → StringPlaces l s t (to_values m v)
  strings_stand m v t (ok, e) = subst (λ (x : List ℕ). StringPlaces l s x (to_values m v)) e (string_places m l s v ok)

  -- AFTER A REBUILD THE STRINGS STAND AS ITS MODE PACKS THEM, AFTER ANY OTHER PATCH WHERE THEY STOOD, in the image that a caller gets
  pub patch_places : (p : Patch) (t : List ℕ) → InBytes p → outcome_of l s p ≡ made t → StringPlaces l s t (target_of l s p)
  unfolding outcome_of target_of
  patch_places (by_id m id value) t b e = strings_stand m (only id value) t (id_passed l s ad m id value t b e)
  patch_places (by_value m old new) t b e = strings_stand m (only (find_id l s (utf16 old)) new) t (value_passed l s ad m old new t b e)
  patch_places (in_pass m j k) t b e = strings_stand m (values_of j k) t (pass_passed l s ad m j k t b e)
  patch_places (to_body id body) t b e =
      let (ok, p) = body_passed l s ad id body t b e in
      subst (Unmoved l s) p (body_unmoved l s id body ok)

  -- ---- wide strings that stand at even places stay there

  -- by a body patch, and by a patch of strings in even mode
  pub even_kept : (p : Patch) (t : List ℕ) → InBytes p → outcome_of l s (in_mode Even p) ≡ made t
      → NoneOddIn l s → NoneOddIn l t
  even_kept p t b e =
      let q : Patch = in_mode Even p in
      let c : InBytes q = in_bytes Even p b in
      places_even l s p t (patch_promise l s ad q t c e).kept.strings (patch_places q t c e)

-- A LIST OF PATCHES IN EVEN MODE KEEPS WIDE STRINGS AT EVEN PLACES
pub even_run : (l : Layout) (ps : List Step) (s : List ℕ) → Admitted l s → AllInBytes ps → NoneOddIn l s
    → NoneOddIn l (run l (all_in Even ps) s)
unfolding run all_in
even_run l [] s ad b h = h
even_run l (p ∷ ps) s ad b h =
    let q : Step = record { patch = in_mode Even p.patch; room = p.room } in
    let after : Outcome → Type 0 = λ o. NoneOddIn l (run l (all_in Even ps) (image_after o s)) in
    elim (either_way (step_of l s q)) [
      | inl (n, e) ↦ subst after (sym e) (even_run l ps s ad b.1 h)
      | inr (u, e) ↦
          let o : outcome_of l s q.patch ≡ made u = step_made l s q u e in
          let k = (patch_promise l s ad q.patch u (in_bytes Even p.patch b.0) o).kept in
          subst after (sym e) (even_run l ps u k.admitted b.1 (even_kept l s ad p.patch u b.0 o h))
    ]

-- ---- where the mode does not matter

module _ (l : Layout) (s : List ℕ) (v : Values) (h : Modeless l s (to_values Even v)) where
  abbrev f : ℕ → Str
  f = string_with l s v

  alike_length : new_length Even l s v ≡ new_length Plain l s v
  unfolding new_length strings_with
  alike_length = elim h [ inl t ↦ rw t | inr n ↦ rw (same_tail l f s n) ]

  alike_fits : patch_fits Even l s v ≡ patch_fits Plain l s v
  unfolding patch_fits strings_with
  alike_fits = elim h [ inl t ↦ rw t | inr n ↦ rw (same_tail l f s n) ]

  alike_patched : patched_strings Even l s v ≡ patched_strings Plain l s v
  unfolding patched_strings changed strings_with
  alike_patched = elim h [ inl t ↦ rw t | inr n ↦ rw (same_rebuilt l f s n) ]

-- WHERE THE MODE DOES NOT MATTER BOTH ANSWER ALIKE
pub modes_alike : (l : Layout) (s : List ℕ) (p : Patch) → Modeless l s (target_of l s p)
    → outcome_of l s (in_mode Even p) ≡ outcome_of l s (in_mode Plain p)
unfolding outcome_of patch_by_id by_id_refusal patch_by_value by_value_refusal patch_in_pass pass_refusal target_of
modes_alike l s (by_id m id value) h =
    let v : Values = only id value in
    rw (alike_length l s v h, alike_fits l s v h, alike_patched l s v h)
modes_alike l s (by_value m old new) h =
    let v : Values = only (find_id l s (utf16 old)) new in
    rw (alike_length l s v h, alike_fits l s v h, alike_patched l s v h)
modes_alike l s (in_pass m e k) h =
    let v : Values = values_of e k in
    rw (alike_length l s v h, alike_fits l s v h, alike_patched l s v h)
modes_alike l s (to_body id body) h = refl

-- ---- even mode never makes the shorter image

longer : (l : Layout) (s : List ℕ) → Admitted l s → (v : Values)
    → place_after l s (to_values Plain v) (length s) ≤ place_after l s (to_values Even v) (length s)
unfolding strings_with
longer l s ad v =
    go (fits_all l s v) (new_tail l (strings_with Plain l s v) s) (new_tail l (strings_with Even l s v) s) (tail_le l (string_with l s v) s)
  where
    go : (b : Bool) (x y : ℕ) → x ≤ y
        → moved (tail_at l s) (pick b (tail_at l s) x) (length s) ≤ moved (tail_at l s) (pick b (tail_at l s) y) (length s)
    go true x y h = omega arith
    go false x y h =
        let r : tail_at l s ≤ length s = omega (arith, ad.room) in
        omega (arith, moved-high (tail_at l s) x (length s) r, moved-high (tail_at l s) y (length s) r)

-- an admitted image, and a patch that each mode makes
pub record BothMake (l : Layout) (s : List ℕ) (p : Patch) (t u : List ℕ) : Type 0 where
  pub admitted : Admitted l s
  pub bytes : InBytes p
  pub plain : outcome_of l s (in_mode Plain p) ≡ made t
  pub even : outcome_of l s (in_mode Even p) ≡ made u

longer_by : (l : Layout) (s : List ℕ) → Admitted l s → (p : Patch)
    → place_after l s (target_of l s (in_mode Plain p)) (length s) ≤ place_after l s (target_of l s (in_mode Even p)) (length s)
unfolding target_of
longer_by l s ad (by_id m id value) = longer l s ad (only id value)
longer_by l s ad (by_value m old new) = longer l s ad (only (find_id l s (utf16 old)) new)
longer_by l s ad (in_pass m e k) = longer l s ad (values_of e k)
longer_by l s ad (to_body id body) = omega arith

-- THE EVEN IMAGE IS NEVER SHORTER THAN THE PLAIN ONE
pub even_longer : (l : Layout) (s : List ℕ) (p : Patch) (t u : List ℕ) → BothMake l s p t u → length t ≤ length u
even_longer l s p t u b =
    let ad = b.admitted in
    let x = (patch_promise l s ad (in_mode Plain p) t (in_bytes Plain p b.bytes) b.plain).kept.long in
    let y = (patch_promise l s ad (in_mode Even p) u (in_bytes Even p b.bytes) b.even).kept.long in
    omega (arith, x, y, longer_by l s ad p)
