-- A list of patches: the promise of each step, joined by induction.
use mathlib.Core.Path.{refl, ◌∙◌, ap}
use mathlib.Core.Logic.{◌⊎◌, inl, inr}
use mathlib.Core.List.{List, [], ◌∷◌}
use Prim.Native.Nat.{ℕ}
use native.Mathlib.Omega.{arith}
use Rattle.format.specs.declared.Layout.{Layout}
use Rattle.image.specs.Strings.{Str}
use Rattle.image.specs.Functions.{Func}
use Rattle.image.specs.Admitted.{Admitted}
use Rattle.patches.specs.Patches.{Step, Target, step_of, image_after, run, target_of, carried}
use Rattle.patches.specs.Promise.{Promise, place_after, string_after, body_after, hash_after}
use Rattle.patches.specs.Lists.{AllInBytes, SomeAccepted, Judged, place_along, function_along, Promised}
use Rattle.patches.proofs.StepLaws.{step_promise}
use Rattle.patches.proofs.TailLaws.{Stepped, known, zero_stays, headers_after}
use Rattle.patches.proofs.ExactLaws.{either_way, not-both, step_judged}

some_or_none : (l : Layout) (ps : List Step) (s : List ℕ) → SomeAccepted l ps s ⊎ (SomeAccepted l ps s → ⊥)
some_or_none l [] s = inr (λ x. x)
some_or_none l (p ∷ ps) s = elim (either_way (step_of l s p)) [
  | inl (n, e) ↦ elim (some_or_none l ps (image_after (step_of l s p) s)) [
    | inl y ↦ inl (inr y)
    | inr f ↦ inr (λ x. elim x [ inl (t, g) ↦ not-both (step_of l s p) n t e g | inr y ↦ f y ])
  ]
  | inr y ↦ inl (inl y)
]

-- the end image of any list of patches on an admitted image is as promised
pub promised : (l : Layout) (ps : List Step) (s : List ℕ) → Admitted l s → AllInBytes ps → Promised l ps s (run l ps s)
unfolding run carried
promised l [] s ad b = record {
  admitted = ad;
  functions = refl;
  kinds = refl;
  identifiers = refl;
  strings = refl;
  string = λ i h. refl;
  body = λ i h. refl;
  flag = λ i. refl;
  hash = λ r h. refl;
  function = λ i h. refl;
  debug = refl;
  zero = refl;
  long = refl;
  tail = λ p h o w. (h, refl);
  sealed = λ x. absurd x;
  unchanged = λ x. refl;
  steps = tt;
}
promised l (p ∷ ps) s ad b = elim (either_way (step_of l s p)) [
  | inl (n, e) ↦
      let r : Promised l ps s (run l ps s) = promised l ps s ad b.1 in
      record {
        admitted = rw e r.admitted;
        functions = rw e r.functions;
        kinds = rw e r.kinds;
        identifiers = rw e r.identifiers;
        strings = rw e r.strings;
        string = λ i h. rw e (r.string i h);
        body = λ i h. rw e (r.body i h);
        flag = λ i. rw e (r.flag i);
        hash = λ j h. rw e (r.hash j h);
        function = λ i h. rw e (r.function i h);
        debug = rw e r.debug;
        zero = rw e r.zero;
        long = rw e r.long;
        tail = λ q h o w. rw e (r.tail q h o (rw e at w.1));
        sealed = λ x. elim x [ inl (t, f) ↦ absurd (not-both (step_of l s p) n t e f) | inr y ↦ rw e (r.sealed (rw e at y)) ];
        unchanged = λ f. rw e (r.unchanged (λ y. f (inr (rw e y))));
        steps = (judged, rw e r.steps);
      }
  | inr (u, e) ↦
      let c : Target = target_of l s p.patch in
      let m : Promise l s u c = step_promise l s ad p u b.0 e in
      let k = m.kept in
      let stepped : Stepped l s c = record { admitted = ad; known = known l s p.room p.patch (judged.accepted.0 (u, e)) } in
      let r : Promised l ps u (run l ps u) = promised l ps u k.admitted b.1 in
      record {
        admitted = rw e r.admitted;
        functions = rw e (r.functions ∙ k.functions);
        kinds = rw e (r.kinds ∙ k.kinds);
        identifiers = rw e (r.identifiers ∙ k.identifiers);
        strings = rw e (r.strings ∙ k.strings);
        string = λ i h. rw e (r.string i (rw k.strings h)
            ∙ ap (λ (x : Str). carried l (λ v c. string_after i c) ps u x) (k.string i h));
        body = λ i h. rw e (r.body i (rw k.functions h)
            ∙ ap (λ (x : List ℕ). carried l (λ v c. body_after i c) ps u x) (k.body i h));
        flag = λ i. rw e (r.flag i ∙ k.flag i);
        hash = λ j h. rw e (r.hash j (rw k.identifiers h) ∙ ap (λ (x : ℕ). carried l (hash_after l j) ps u x) (m.hash j h));
        function = λ i h. rw e (r.function i (rw k.functions h) ∙ ap (λ (x : Func). function_along l ps u i x) (k.function i h));
        debug = rw e (r.debug ∙ ap (λ (x : ℕ). place_along l ps u x) k.debug);
        zero = rw e (ap (λ (x : ℕ). place_along l ps u x) (zero_stays l s c stepped) ∙ r.zero);
        long = rw e (r.long ∙ ap (λ (x : ℕ). place_along l ps u x) k.long);
        tail = λ q h o w.
            let (x, y, z) = k.tail q h.0 (omega (arith, h.1)) (w.0 (u, e)) o in
            let (in_Tail, same)
            =
            r.tail (place_after l s c q) (x, omega (arith, y))
            (headers_after l s u c k stepped q (record { tail = h.0; body = w.0 (u, e); headers = o }))
            (rw e at w.1) in
            rw e (in_Tail, same ∙ z);
        sealed = λ x. rw e (elim (some_or_none l ps u) [ inl y ↦ r.sealed y | inr f ↦ rw (r.unchanged f) m.sealed ]);
        unchanged = λ f. absurd (f (inl (u, e)));
        steps = (judged, rw e r.steps);
      }
]
  where
    judged : Judged l s p
    judged = step_judged l s ad.bytes p b.0
