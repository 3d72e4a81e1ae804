-- One accepted patch of any kind keeps its promise.
use mathlib.Core.Path.{◌≡◌, subst}
use mathlib.Core.Bool.{Bool, true, false}
use mathlib.Core.Option.{some}
use mathlib.Core.List.{List}
use Prim.Native.Nat.{ℕ, zero, suc, ◌<◌}
use native.Mathlib.Omega.{arith}
use borrow.Author.Tests.{leb-false, ltb-false, not-false}
use lib.Dec.{ltb, eqb}
use lib.ListN.{length}
use Rattle.bits.specs.Choice.{pick, judge}
use Rattle.bits.specs.Outcome.{Outcome, refused, made, roomed}
use Rattle.bits.proofs.TestLaws.{is_found}
use Rattle.bits.proofs.JudgeLaws.{judge_pass}
use Rattle.bits.proofs.ListLaws.{AllBelow}
use Rattle.format.specs.declared.Layout.{Layout}
use Rattle.format.specs.declared.Mode.{Mode}
use Rattle.footer.specs.Finalize.{size_limit}
use Rattle.image.specs.Sections.{strings_in, functions_in}
use Rattle.image.specs.Admitted.{Admitted}
use Rattle.edits.specs.Fit.{fields_fit}
use Rattle.admission.proofs.AnswerLaws.{judged_none}
use Rattle.utf.specs.Utf8.{utf16}
use Rattle.string_find.specs.Find.{find_id}
use Rattle.string_edits.specs.Values.{Values, only, Edit, values_of}
use Rattle.string_in_place.specs.Patch as string
use Rattle.strings.specs.Patch as strings
use Rattle.strings.specs.Pass as pass
use Rattle.functions.specs.Patch as functions
use Rattle.patches.specs.Patches.{Patch, by_id, by_value, in_pass, to_body, outcome_of, Step, step_of, to_values, a_body, target_of}
use Rattle.patches.specs.Promise.{Promise}
use Rattle.patches.specs.Lists.{InBytes}
use Rattle.patches.proofs.StringLaws.{StringsPassed, string_promise}
use Rattle.patches.proofs.BodyLaws.{BodyPassed, body_promise}

-- an outcome that is made, of a refusal or an image
pub made_of : (n : ℕ) (t u : List ℕ) → pick (eqb n 0) (made t) (refused n) ≡ made u → (n ≡ 0) × (t ≡ u)
made_of n t u e =
    let (z, q) = is_found n (made t) refused (made u) e (λ k z. let y : ◌≡◌ {A = ℕ} 0 1 = cc in omega arith) in
    (z, cc)

-- what is made in some room is made
roomed_made : (room : ℕ) (o : Outcome) (t : List ℕ) → roomed room o ≡ made t → o ≡ made t
unfolding roomed
roomed_made room (refused n) t e = absurd (let z : ◌≡◌ {A = ℕ} 0 1 = cc in omega arith)
roomed_made room (made x) t e = go (ltb room (length x)) e
  where
    go : (b : Bool) → pick b (refused 13) (made x) ≡ made t → made x ≡ made t
    go true e = absurd (let z : ◌≡◌ {A = ℕ} 0 1 = cc in omega arith)
    go false e = e

-- a step that is accepted is a patch that is, whatever the room
pub step_made : (l : Layout) (s : List ℕ) (p : Step) (t : List ℕ) → step_of l s p ≡ made t → outcome_of l s p.patch ≡ made t
unfolding step_of
step_made l s p t e = roomed_made p.room (outcome_of l s p.patch) t e

module _ (l : Layout) (s : List ℕ) (ad : Admitted l s) where
  -- each string that gets a value gets bytes
  abbrev pub InBytesAll : Values → Type 0
  InBytesAll v = (i : ℕ) → i < strings_in s → (value : List ℕ) → v i ≡ some value → AllBelow 256 value

  pub passed : (m : Mode) (v : Values) → InBytesAll v → judge (string.result_checks m l s v) ≡ 0 → StringsPassed m l s v
  passed m v bytes e =
      let (limit, e₁) = judge_pass _ _ (omega arith) e in
      let (field, e₂) = judge_pass _ _ (omega arith) e₁ in
      record {
        admitted = ad;
        bytes = bytes;
        limit = ltb-false size_limit (string.new_length m l s v) limit;
        field = not-false (string.patch_fits m l s v) field;
      }

  list_bytes : (e : ℕ → Edit) (k : ℕ) → ((j : ℕ) → j < k → AllBelow 256 (e j).value) → InBytesAll (values_of e k)
  unfolding values_of
  list_bytes e zero b i h other q = absurd (let z : ◌≡◌ {A = ℕ} 0 1 = cc in omega arith)
  list_bytes e (suc k) b i h other q = go (eqb i (e k).id) q (list_bytes e k (λ j g. b j (omega arith)) i h other)
    where
      go : (t : Bool) → pick t (some (e k).value) (values_of e k i) ≡ some other
          → (values_of e k i ≡ some other → AllBelow 256 other) → AllBelow 256 other
      go true q rest = let z : (e k).value ≡ other = cc in rw (← z) (b k (omega arith))
      go false q rest = rest q

  -- one string is a list of one
  only_bytes : (id : ℕ) (value : List ℕ) → AllBelow 256 value → InBytesAll (only id value)
  unfolding values_of
  only_bytes id value b = list_bytes (λ j. record { id = id; value = value }) 1 (λ j h. b)

  -- a patch that is accepted was refused by no check, and its image is the patched one
  pub id_passed : (m : Mode) (id : ℕ) (value t : List ℕ) → AllBelow 256 value → strings.patch_by_id m l s id value ≡ made t
      → StringsPassed m l s (only id value) × (string.patched_strings m l s (only id value) ≡ t)
  unfolding strings.patch_by_id strings.by_id_refusal
  id_passed m id value t bytes e =
      let (n, p) = made_of _ _ _ e in
      let f = (judged_none l s _ n).1 in
      let (known, f₁) = judge_pass _ _ (omega arith) f in
      let (valid, f₂) = judge_pass _ _ (omega arith) f₁ in
      (passed m (only id value) (only_bytes id value bytes) f₂, p)

  pub value_passed : (m : Mode) (old new t : List ℕ) → AllBelow 256 new → strings.patch_by_value m l s old new ≡ made t
      → StringsPassed m l s (only (find_id l s (utf16 old)) new)
      × (string.patched_strings m l s (only (find_id l s (utf16 old)) new) ≡ t)
  unfolding strings.patch_by_value strings.by_value_refusal
  value_passed m old new t bytes e =
      let id : ℕ = find_id l s (utf16 old) in
      let (n, p) = made_of _ _ _ e in
      let f = (judged_none l s _ n).1 in
      let (first, f₁) = judge_pass _ _ (omega arith) f in
      let (second, f₂) = judge_pass _ _ (omega arith) f₁ in
      let (known, f₃) = judge_pass _ _ (omega arith) f₂ in
      (passed m (only id new) (only_bytes id new bytes) f₃, p)

  pub pass_passed : (m : Mode) (e : ℕ → Edit) (k : ℕ) (t : List ℕ) → ((j : ℕ) → j < k → AllBelow 256 (e j).value)
      → pass.patch_in_pass m l s e k ≡ made t
      → StringsPassed m l s (values_of e k) × (string.patched_strings m l s (values_of e k) ≡ t)
  unfolding pass.patch_in_pass pass.pass_refusal
  pass_passed m e k t bytes q =
      let (n, p) = made_of _ _ _ q in
      let f = (judged_none l s _ n).1 in
      let (known, f₁) = judge_pass _ _ (omega arith) f in
      let (differ, f₂) = judge_pass _ _ (omega arith) f₁ in
      let (valid, f₃) = judge_pass _ _ (omega arith) f₂ in
      (passed m (values_of e k) (list_bytes e k bytes) f₃, p)

  to_strings : (m : Mode) (v : Values) (t : List ℕ) → StringsPassed m l s v × (string.patched_strings m l s v ≡ t)
      → Promise l s t (to_values m v)
  to_strings m v t (ok, p) = subst (λ (x : List ℕ). Promise l s x (to_values m v)) p (string_promise m l s v ok)

  pub body_passed : (id : ℕ) (body t : List ℕ) → AllBelow 256 body → functions.patch_body l s id body ≡ made t
      → BodyPassed l s id body × (functions.patched_body l s id body ≡ t)
  unfolding functions.patch_body functions.body_refusal
  body_passed id body t bytes e =
      let (n, p) = made_of _ _ _ e in
      let f = (judged_none l s _ n).1 in
      let (known, f₁) = judge_pass _ _ (omega arith) f in
      let (alone, f₂) = judge_pass _ _ (omega arith) f₁ in
      let (infos, f₃) = judge_pass _ _ (omega arith) f₂ in
      let (debug, f₄) = judge_pass _ _ (omega arith) f₃ in
      let (empty, f₅) = judge_pass _ _ (omega arith) f₄ in
      let (limit, f₆) = judge_pass _ _ (omega arith) f₅ in
      let (size, f₇) = judge_pass _ _ (omega arith) f₆ in
      let (field, f₈) = judge_pass _ _ (omega arith) f₇ in
      let ok : BodyPassed l s id body
      = record {
        admitted = ad;
        known = leb-false (functions_in s) id known;
        bytes = bytes;
        alone = not-false (functions.body_alone l s id) alone;
        infos = not-false (functions.infos_outside l s id) infos;
        debug = not-false (functions.debug_past l s id) debug;
        empty = empty;
        limit = ltb-false size_limit (functions.moved_past_body l s id body (length s)) limit;
        size = not-false (functions.size_fits l s id body) size;
        field = not-false (fields_fit l s (functions.moved_past_body l s id body)) field;
      } in
      (ok, p)

  to_body_lem : (id : ℕ) (body t : List ℕ) → BodyPassed l s id body × (functions.patched_body l s id body ≡ t)
      → Promise l s t (a_body id body)
  to_body_lem id body t (ok, p) = subst (λ (x : List ℕ). Promise l s x (a_body id body)) p (body_promise l s id body ok)

  -- a patch that is accepted, whatever the room
  pub patch_promise : (p : Patch) (t : List ℕ) → InBytes p → outcome_of l s p ≡ made t → Promise l s t (target_of l s p)
  unfolding outcome_of target_of
  patch_promise (by_id m id value) t b e = to_strings m (only id value) t (id_passed m id value t b e)
  patch_promise (by_value m old new) t b e = to_strings m (only (find_id l s (utf16 old)) new) t (value_passed m old new t b e)
  patch_promise (in_pass m j k) t b e = to_strings m (values_of j k) t (pass_passed m j k t b e)
  patch_promise (to_body id body) t b e = to_body_lem id body t (body_passed id body t b e)

  -- and in its room
  pub step_promise : (p : Step) (t : List ℕ) → InBytes p.patch → step_of l s p ≡ made t
      → Promise l s t (target_of l s p.patch)
  step_promise p t b e = patch_promise p.patch t b (step_made l s p t e)
