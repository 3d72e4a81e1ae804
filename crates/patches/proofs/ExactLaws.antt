-- A step is accepted exactly where no fault is there, and refused with n exactly where fault n is there and none before it in 01's order.
use mathlib.Core.Path.{◌≡◌, refl, ◌∙◌}
use mathlib.Core.Bool.{Bool, true, false, not}
use mathlib.Core.Logic.{◌⊎◌, inl, inr, ◌↔◌}
use mathlib.Core.List.{List, [], ◌∷◌, ◌++◌, append_assoc}
use Prim.Native.Nat.{ℕ, ◌≤◌, ◌<◌}
use native.Mathlib.Omega.{arith}
use borrow.Author.Tests.{eq-eqb, eqb-true, eqb-false, leb-true, le-leb, ltb-true, lt-ltb, not-true}
use lib.Dec.{leb, ltb, eqb}
use lib.ListN.{length}
use Rattle.refusals.specs.Order.{turn_in}
use Rattle.bits.specs.Choice.{pick, both, Check, check, judge}
use Rattle.bits.specs.Outcome.{Outcome, refused, made, roomed}
use Rattle.bits.proofs.TestLaws.{both_0, both_1, either_true}
use Rattle.bits.proofs.JudgeLaws.{rising, given, numbered, Shows, Shows.nothing, Shows.◌also◌, shows_append, shows_map}
use Rattle.bits.proofs.JudgeLaws.{given_first, given_last, judge_append}
use Rattle.bits.proofs.OutcomeLaws.{roomed_more}
use Rattle.bits.proofs.ListLaws.{AllBelow}
use Rattle.format.specs.declared.Layout.{Layout}
use Rattle.format.specs.declared.Mode.{Mode}
use Rattle.image.specs.Sections.{functions_in, strings_in}
use Rattle.image.specs.Functions.{func_of}
use Rattle.edits.specs.Fit.{fields_fit}
use Rattle.image.specs.Admission.{checks, refusal}
use Rattle.image.proofs.AdmitLaws.{admitted}
use Rattle.image.proofs.FaultLaws as faults
use Rattle.admission.proofs.AnswerLaws.{judged_none}
use Rattle.utf.specs.Utf8.{is_utf8, utf16}
use Rattle.string_find.specs.Find.{find_id}
use Rattle.string_edits.specs.Values.{Values, only, values_of}
use Rattle.string_edits.specs.Lists.{all_known, all_differ, all_utf8}
use Rattle.string_in_place.specs.Patch as string
use Rattle.strings.specs.Patch as strings
use Rattle.strings.specs.Pass as pass
use Rattle.functions.specs.Patch as functions
use Rattle.patches.specs.Patches.{Patch, by_id, by_value, in_pass, to_body, outcome_of, Step, step_of, to_values, target_of}
use Rattle.patches.specs.Promise.{place_after}
use Rattle.patches.specs.Lists.{InBytes, Accepted, FirstFault, Judged}
use Rattle.patches.specs.Faults.{order_of, goes_to, PatchFault}
use Rattle.patches.specs.Faults.PatchFault.{bad_value, bad_value_of, bad_old, bad_new, shares, within, info_inside, debug_below, was_empty}
use Rattle.patches.specs.Faults.PatchFault.{absent, over_limit, over_field, over_size, no_room, bad_image, no_string, no_string_of}
use Rattle.patches.specs.Faults.PatchFault.{no_function, given_twice}
use Rattle.patches.proofs.StepLaws.{patch_promise}
use Rattle.patches.proofs.OrderLaws.{in_turns, InOrder, not-zero, some, judged_in_order}
use Rattle.patches.proofs.FindLaws.{find_least, find_none}
use Rattle.patches.proofs.RefusalLaws.{size-wrong, size_failed, fields_wrong, fields_failed, alone_wrong, alone_failed}
use Rattle.patches.proofs.RefusalLaws.{infos_decide, debug_decide, known_decide, differ_decide, utf8_decide, new_length_lem}
use Rattle.patches.proofs.RefusalLaws.{Beyond, patch_wrong, patch_failed}

-- ---- the checks of a step: those of the patch, and the room

abbrev pub own_checks : Layout → List ℕ → Patch → List Check
own_checks l s (by_id m id value) =
    check 7 (leb (strings_in s) id) ∷ check 8 (not (is_utf8 value)) ∷ string.result_checks m l s (only id value)
own_checks l s (by_value m old new) =
    check 8 (not (is_utf8 old))
    ∷ check 8 (not (is_utf8 new))
    ∷ check 14 (leb (strings_in s) (find_id l s (utf16 old)))
    ∷ string.result_checks m l s (only (find_id l s (utf16 old)) new)
own_checks l s (in_pass m e k) =
    check 7 (not (all_known (λ j. (e j).id) k (strings_in s)))
    ∷ check 17 (not (all_differ (λ j. (e j).id) k))
    ∷ check 8 (not (all_utf8 (λ j. (e j).value) k))
    ∷ string.result_checks m l s (values_of e k)
own_checks l s (to_body id body) =
    check 7 (leb (functions_in s) id)
    ∷ check 9 (not (functions.body_alone l s id))
    ∷ check 9 (not (functions.infos_outside l s id))
    ∷ check 9 (not (functions.debug_past l s id))
    ∷ check 10 (both (eqb (func_of l s id).size 0) (ltb 0 (length body)))
    ∷ check 11 (ltb 67_108_864 (functions.moved_past_body l s id body (length s)))
    ∷ check 12 (not (functions.size_fits l s id body))
    ∷ check 12 (not (fields_fit l s (functions.moved_past_body l s id body)))
    ∷ []

module _ (l : Layout) (s : List ℕ) (room : ℕ) where
  abbrev pub room_check : Patch → List Check
  room_check p = check 13 (ltb room (goes_to l s p (length s))) ∷ []

  abbrev pub all_checks : Patch → List Check
  all_checks p = checks l s ++ (own_checks l s p ++ room_check p)

  -- ---- a check that is met is a fault

  -- those of the result, for any patch of strings
  result_shows : (m : Mode) (v : Values) (p : Patch) → target_of l s p ≡ to_values m v
      → Shows (PatchFault l s room p) (string.result_checks m l s v ++ room_check p)
  result_shows m v p e =
      (λ t. over_limit p (rw (e, ← new_length_lem m l s v) (ltb-true 67_108_864 (string.new_length m l s v) t)))
      also (λ t. let (j, h, u, w) = patch_wrong m l s v (not-true (string.patch_fits m l s v) t) in over_field p j h u (rw e w))
      also (λ t. no_room p (ltb-true room _ t))
      also nothing

  share_shown : (id : ℕ) (body : List ℕ) → functions.body_alone l s id ≡ false → PatchFault l s room (to_body id body) 9
  share_shown id body e =
      let (j, h, d, w) = alone_wrong l s id e in
      elim w [ inl x ↦ shares id body j h d x | inr (z, x, y) ↦ within id body j h d z x y ]

  pub own_shows : (p : Patch) → Shows (PatchFault l s room p) (own_checks l s p ++ room_check p)
  unfolding target_of
  own_shows (by_id m id value) =
      (λ t. no_string m id value (leb-true (strings_in s) id t))
      also (λ t. bad_value m id value (not-true (is_utf8 value) t))
      also result_shows m (only id value) (by_id m id value) refl
  own_shows (by_value m old new) =
      let id : ℕ = find_id l s (utf16 old) in
      (λ t. bad_old m old new (not-true (is_utf8 old) t))
      also (λ t. bad_new m old new (not-true (is_utf8 new) t))
      also (λ t. absent m old new (λ i h. find_least l s (utf16 old) i (omega (arith, leb-true (strings_in s) id t))))
      also result_shows m (only id new) (by_value m old new) refl
  own_shows (in_pass m e k) =
      (λ t. let (j, h, x) = (known_decide e k (strings_in s)).wrong (not-true (all_known (λ j. (e j).id) k (strings_in s)) t) in
      no_string_of m e k j h x)
      also (λ t. let (j, h, (i, g, x)) = (differ_decide e k).wrong (not-true (all_differ (λ j. (e j).id) k) t) in given_twice m e k i j g
      h x)
      also (λ t. let (j, h, x) = (utf8_decide e k).wrong (not-true (all_utf8 (λ j. (e j).value) k) t) in bad_value_of m e k j h x)
      also result_shows m (values_of e k) (in_pass m e k) refl
  own_shows (to_body id body) =
      (λ t. no_function id body (leb-true (functions_in s) id t))
      also (λ t. share_shown id body (not-true (functions.body_alone l s id) t))
      also (λ t. let (j, h, (x, y)) = (infos_decide l s id).wrong (not-true (functions.infos_outside l s id) t) in info_inside id body j h x
      y)
      also (λ t. let (x, y) = (debug_decide l s id).wrong (not-true (functions.debug_past l s id) t) in debug_below id body x y)
      also (λ t.
      was_empty id body (eqb-true (func_of l s id).size 0 (both_0 (eqb (func_of l s id).size 0) (ltb 0 (length body)) t))
      (ltb-true 0 (length body) (both_1 (eqb (func_of l s id).size 0) (ltb 0 (length body)) t)))
      also (λ t. over_limit (to_body id body) (ltb-true 67_108_864 (functions.moved_past_body l s id body (length s)) t))
      also (λ t. let (x, y) = size-wrong l s id body (not-true (functions.size_fits l s id body) t) in over_size id body x y)
      also (λ t. let (j, h, u, w) = fields_wrong l s (functions.moved_past_body l s id body)
      (not-true (fields_fit l s (functions.moved_past_body l s id body)) t) in over_field (to_body id body) j h u w)
      also (λ t. no_room (to_body id body) (ltb-true room _ t))
      also nothing

  all_shows : (p : Patch) → Shows (PatchFault l s room p) (all_checks p)
  all_shows p =
      shows_append (PatchFault l s room p) (checks l s) (own_checks l s p ++ room_check p)
      (shows_map _ (PatchFault l s room p) (checks l s) (bad_image p) (faults.shows l s)) (own_shows p)

  -- ---- and a fault's check is met

  -- those of the result, for any patch of strings
  limit-given : (m : Mode) (v : Values) (p : Patch) → 67_108_864 < place_after l s (to_values m v) (length s)
      → given 11 (string.result_checks m l s v ++ room_check p) ≡ true
  limit-given m v p h = rw (lt-ltb 67_108_864 (string.new_length m l s v) (rw (new_length_lem m l s v) h))

  field-given : (m : Mode) (v : Values) (p : Patch) → Beyond l s (place_after l s (to_values m v))
      → given 12 (string.result_checks m l s v ++ room_check p) ≡ true
  field-given m v p x = rw (patch_failed m l s v x)

  pub own_gives : (p : Patch) (n : ℕ) → PatchFault l s room p n → given n (all_checks p) ≡ true
  unfolding target_of
  own_gives p n (bad_image q m x) = given_first n (checks l s) (own_checks l s p ++ room_check p) (faults.gives l s n x)
  own_gives p n (no_string m id value h) = given_last n (checks l s) _ (rw (le-leb (strings_in s) id h))
  own_gives p n (no_string_of m e k j h x) = given_last n (checks l s) _ (rw ((known_decide e k (strings_in s)).failed (j, h, x)))
  own_gives p n (given_twice m e k i j g h x) = given_last n (checks l s) _ (rw ((differ_decide e k).failed (j, h, (i, g, x))))
  own_gives p n (bad_value_of m e k j h x) = given_last n (checks l s) _ (rw ((utf8_decide e k).failed (j, h, x)))
  own_gives p n (no_function id body h) = given_last n (checks l s) _ (rw (le-leb (functions_in s) id h))
  own_gives p n (bad_value m id value h) = given_last n (checks l s) _ (rw h)
  own_gives p n (bad_old m old new h) = given_last n (checks l s) _ (rw h)
  own_gives p n (bad_new m old new h) = given_last n (checks l s) _ (simp (h, either_true))
  own_gives p n (shares id body j h d x) = given_last n (checks l s) _ (rw (alone_failed l s id (j, h, d, inl x)))
  own_gives p n (within id body j h d z x y) = given_last n (checks l s) _ (rw (alone_failed l s id (j, h, d, inr (z, x, y))))
  own_gives p n (info_inside id body j h x y) = given_last n (checks l s) _
      (simp ((infos_decide l s id).failed (j, h, (x, y)), either_true))
  own_gives p n (debug_below id body x y) = given_last n (checks l s) _ (simp ((debug_decide l s id).failed (x, y), either_true))
  own_gives p n (was_empty id body x y) = given_last n (checks l s) _ (rw (eq-eqb (func_of l s id).size 0 x, lt-ltb 0 (length body) y))
  own_gives p n (absent m old new h) = given_last n (checks l s) _ (rw (le-leb (strings_in s) _ (find_none l s (utf16 old) h)))
  own_gives p n (over_limit (by_id m id value) h) = given_last n (checks l s) _ (limit-given m (only id value) p h)
  own_gives p n (over_limit (by_value m old new) h) =
      given_last n (checks l s) _ (limit-given m (only (find_id l s (utf16 old)) new) p h)
  own_gives p n (over_limit (in_pass m e k) h) = given_last n (checks l s) _ (limit-given m (values_of e k) p h)
  own_gives p n (over_limit (to_body id body) h) =
      given_last n (checks l s) _ (simp (lt-ltb 67_108_864 (functions.moved_past_body l s id body (length s)) h, either_true))
  own_gives p n (over_field (by_id m id value) j h u w) = given_last n (checks l s) _ (field-given m (only id value) p (j, h, u, w))
  own_gives p n (over_field (by_value m old new) j h u w) =
      given_last n (checks l s) _ (field-given m (only (find_id l s (utf16 old)) new) p (j, h, u, w))
  own_gives p n (over_field (in_pass m e k) j h u w) = given_last n (checks l s) _ (field-given m (values_of e k) p (j, h, u, w))
  own_gives p n (over_field (to_body id body) j h u w) =
      given_last n (checks l s) _ (simp (fields_failed l s (functions.moved_past_body l s id body) (j, h, u, w), either_true))
  own_gives p n (over_size id body t h) = given_last n (checks l s) _ (simp (size_failed l s id body t h, either_true))
  own_gives p n (no_room q h) =
      given_last n (checks l s) (own_checks l s p ++ room_check p)
      (given_last n (own_checks l s p) (room_check p) (rw (lt-ltb room (goes_to l s p (length s)) h)))

  -- ---- the checks stand in 01's order

  rises : (p : Patch) → rising 1 (length (order_of p)) (in_turns (order_of p) (all_checks p)) ≡ true
  unfolding checks turn_in
  rises (by_id m id value) = refl
  rises (by_value m old new) = refl
  rises (in_pass m e k) = refl
  rises (to_body id body) = refl

  in_order : (p : Patch) → InOrder (order_of p) (PatchFault l s room p) (all_checks p)
  in_order p = record { rises = rises p; shows = all_shows p; gives = own_gives p }

  -- so that no fault has the number 0
  pub fault_numbered : (p : Patch) (n : ℕ) → PatchFault l s room p n → 0 < n
  fault_numbered p = not-zero (order_of p) (PatchFault l s room p) (all_checks p) (in_order p)

  fault_judged : (p : Patch) (n : ℕ) → PatchFault l s room p n → 0 < judge (all_checks p)
  fault_judged p = some (order_of p) (PatchFault l s room p) (all_checks p) (in_order p)

  first_judged : (p : Patch) (n : ℕ) → 0 < n → judge (all_checks p) ≡ n ↔ FirstFault l s (record { patch = p; room = room }) n
  first_judged p = judged_in_order (order_of p) (PatchFault l s room p) (all_checks p) (in_order p)

-- ---- the outcome of a step, and what is judged

roomed_judged : (xs : List Check) (t : List ℕ) (m room n : ℕ) → numbered xs ≡ true → (judge xs ≡ 0 → length t ≡ m) → 0 < n
    → roomed room (pick (eqb (judge xs) 0) (made t) (refused (judge xs))) ≡ refused n
    ↔ judge (xs ++ (check 13 (ltb room m) ∷ [])) ≡ n
unfolding roomed judge
roomed_judged xs t m room n num long some = rw (judge_append xs (check 13 (ltb room m) ∷ []) num) (go (eqb (judge xs) 0) refl)
  where
    fits : (c : Bool) → pick c (refused 13) (made t) ≡ refused n ↔ pick c 13 0 ≡ n
    fits true = (λ e. cc, λ e. rw e)
    fits false = (λ e. absurd (let z : ◌≡◌ {A = ℕ} 0 1 = cc in omega arith), λ e. absurd (omega arith))

    go : (b : Bool) → eqb (judge xs) 0 ≡ b → roomed room (pick b (made t) (refused (judge xs))) ≡ refused n
        ↔ pick b (pick (ltb room m) 13 0) (judge xs) ≡ n
    go true e = rw (long (eqb-true (judge xs) 0 e)) (fits (ltb room m))
    go false e = (λ q. cc, λ q. rw q)

-- an outcome is one or the other
pub either_way : (o : Outcome) → ((n : ℕ) × (o ≡ refused n)) ⊎ ((t : List ℕ) × (o ≡ made t))
either_way (refused n) = inl (n, refl)
either_way (made t) = inr (t, refl)

pub not-both : (o : Outcome) (n : ℕ) (t : List ℕ) → o ≡ refused n → o ≡ made t → ⊥
not-both o n t e f = let z : ◌≡◌ {A = ℕ} 0 1 = cc in omega arith

-- what is refused by its number, or for want of room, is not refused with 0
numbered-refusal : (m room n : ℕ) (t : List ℕ) → roomed room (pick (eqb m 0) (made t) (refused m)) ≡ refused n → 0 < n
unfolding roomed
numbered-refusal m room n t e = go (eqb m 0) refl e
  where
    short : (c : Bool) → pick c (refused 13) (made t) ≡ refused n → 0 < n
    short true e = let z : 13 ≡ n = cc in omega arith
    short false e = absurd (let z : ◌≡◌ {A = ℕ} 0 1 = cc in omega arith)

    go : (b : Bool) → eqb m 0 ≡ b → roomed room (pick b (made t) (refused m)) ≡ refused n → 0 < n
    go true h e = short (ltb room (length t)) e
    go false h e = let z : m ≡ n = cc in omega (arith, eqb-false m 0 h)

-- a longer room changes no answer but 13
room_more : (l : Layout) (s : List ℕ) (p : Patch) (room more : ℕ) → room ≤ more
    → (step_of l s (record { patch = p; room = room }) ≡ refused 13 → ⊥)
    → step_of l s (record { patch = p; room = more }) ≡ step_of l s (record { patch = p; room = room })
unfolding step_of
room_more l s p room more h f = roomed_more (outcome_of l s p) room more h f

-- what a patch makes where it is accepted
abbrev result_of : Layout → List ℕ → Patch → List ℕ
result_of l s (by_id m id value) = string.patched_strings m l s (only id value)
result_of l s (by_value m old new) = string.patched_strings m l s (only (find_id l s (utf16 old)) new)
result_of l s (in_pass m e k) = string.patched_strings m l s (values_of e k)
result_of l s (to_body id body) = functions.patched_body l s id body

module _ (l : Layout) (s : List ℕ) (bytes : AllBelow 256 s) (p : Step) (in_bytes : InBytes p.patch) where
  abbrev own : List Check
  own = checks l s ++ own_checks l s p.patch

  outcome_is : (q : Patch) → outcome_of l s q ≡ pick (eqb (judge (checks l s ++ own_checks l s q)) 0) (made (result_of l s q))
      (refused (judge (checks l s ++ own_checks l s q)))
  unfolding outcome_of strings.patch_by_id strings.by_id_refusal strings.patch_by_value strings.by_value_refusal pass.patch_in_pass
      pass.pass_refusal functions.patch_body functions.body_refusal
  outcome_is (by_id m id value) = refl
  outcome_is (by_value m old new) = refl
  outcome_is (in_pass m e k) = refl
  outcome_is (to_body id body) = refl

  all_numbered : (q : Patch) → numbered (checks l s ++ own_checks l s q) ≡ true
  unfolding checks
  all_numbered (by_id m id value) = refl
  all_numbered (by_value m old new) = refl
  all_numbered (in_pass m e k) = refl
  all_numbered (to_body id body) = refl

  -- a list that is passed begins with a list that is passed
  first : judge own ≡ 0 → refusal l s ≡ 0
  first e = (judged_none l s (own_checks l s p.patch) e).0

  long : judge own ≡ 0 → length (result_of l s p.patch) ≡ goes_to l s p.patch (length s)
  long e =
      let m : outcome_of l s p.patch ≡ made (result_of l s p.patch) = outcome_is p.patch ∙ rw (eq-eqb (judge own) 0 e) in
      (patch_promise l s (admitted l s bytes (first e)) p.patch (result_of l s p.patch) in_bytes m).kept.long

  refused_judged : (n : ℕ) → 0 < n → step_of l s p ≡ refused n ↔ judge (all_checks l s p.room p.patch) ≡ n
  unfolding step_of
  refused_judged n h =
      rw (outcome_is p.patch, ← append_assoc (checks l s) (own_checks l s p.patch) (room_check l s p.room p.patch))
      (roomed_judged own (result_of l s p.patch) (goes_to l s p.patch (length s)) p.room n (all_numbered p.patch) long h)

  -- no refusal has the number 0
  refused_some : (n : ℕ) → step_of l s p ≡ refused n → 0 < n
  unfolding step_of
  refused_some n e = numbered-refusal (judge own) p.room n (result_of l s p.patch) (rw (outcome_is p.patch) at e)

  -- a step is refused with n exactly where fault n is there, and none that is due before it
  pub refused_exactly : (n : ℕ) → step_of l s p ≡ refused n ↔ FirstFault l s p n
  refused_exactly n = (
    λ e. let h = refused_some n e in (first_judged l s p.room p.patch n h).0 ((refused_judged n h).0 e),
    λ x. let h =
        fault_numbered l s p.room p.patch n x.0 in (refused_judged n h).1 ((first_judged l s p.room p.patch n h).1 x),
  )

  -- it is accepted exactly where no fault is there
  pub accepted_exactly : Accepted l s p ↔ ((n : ℕ) → PatchFault l s p.room p.patch n → ⊥)
  accepted_exactly = (
    λ y n x. let m : ℕ = judge (all_checks l s p.room p.patch) in
        not-both (step_of l s p) m y.0 ((refused_judged m (fault_judged l s p.room p.patch n x)).1 refl) y.1,
    λ f. elim (either_way (step_of l s p)) [ inl (n, e) ↦ absurd (f n ((refused_exactly n).0 e).0) | inr y ↦ y ],
  )

  -- what is promised of a step
  pub step_judged : Judged l s p
  step_judged = record { accepted = accepted_exactly; refused_with = refused_exactly; longer = room_more l s p.patch p.room }
