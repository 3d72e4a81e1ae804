-- The order of a list of edits does not matter to a pass: what it makes hangs on what each string gets, and each of its numbers is
-- judged over the whole list. 02, No. 4. What strings get by many, in another order, is the same: 02, No. 12.
use mathlib.Core.Path.{◌≡◌, refl, ap, sym, ◌∙◌, fun_ext}
use mathlib.Core.Bool.{Bool, true, false, not}
use mathlib.Core.Logic.{inl, inr}
use mathlib.Core.Option.{some}
use mathlib.Core.List.{List, ◌∷◌, ◌++◌}
use Prim.Native.Nat.{ℕ, zero, suc, ◌<◌}
use native.Mathlib.Omega.{arith}
use lib.Dec.{ltb, eqb}
use Rattle.refusals.specs.Numbers as refusals
use Rattle.bits.specs.Choice.{pick, all_below, check, judge}
use Rattle.bits.specs.Outcome.{Outcome, made, outcome_for}
use Rattle.bits.proofs.TestLaws.{which, all_at, all_of}
use Rattle.format.specs.declared.Layout.{Layout}
use Rattle.format.specs.declared.Mode.{Mode}
use Rattle.image.specs.Sections.{strings_in}
use Rattle.image.specs.Admission.{refusal, checks}
use Rattle.admission.proofs.AnswerLaws.{judged_then}
use Rattle.utf.specs.Utf8.{is_utf8}
use Rattle.string_edits.specs.Values.{Values, only, Edit, values_of}
use Rattle.string_edits.specs.Lists.{all_known, all_differ, all_utf8}
use Rattle.string_edits.proofs.TurnLaws.{some_or_none, none-some, only_own, only-id}
use Rattle.string_in_place.specs.Patch.{result_checks, patched_strings}
use Rattle.strings.specs.Pass.{pass_refusal, patch_in_pass}
use Rattle.string_edits.proofs.ListLaws.{differ, values_at}
use Rattle.patches.specs.Orders.{Reordered}
use Rattle.patches.proofs.RefusalLaws.{differ_decide}
use Rattle.patches.proofs.StepLaws.{made_of}

-- ---- the image hangs on what each string gets

-- what a pass makes, but for 7, 17 and 8, hangs on the map alone
pub same-values : (m : Mode) (l : Layout) (s : List ℕ) (e f : ℕ → Edit) (j k : ℕ) (t u : List ℕ)
    → ((i : ℕ) → values_of e j i ≡ values_of f k i) → patch_in_pass m l s e j ≡ made t → patch_in_pass m l s f k ≡ made u
    → t ≡ u
unfolding patch_in_pass
same-values m l s e f j k t u h p q =
    sym (made_of (pass_refusal m l s e j) (patched_strings m l s (values_of e j)) t p).1
    ∙ ap (λ (v : Values). patched_strings m l s v) (fun_ext h)
    ∙ (made_of (pass_refusal m l s f k) (patched_strings m l s (values_of f k)) u q).1

-- ---- the same k edits in another order

-- the other way round
reordered_back : {A : Type 0} (e f : ℕ → A) (k : ℕ) → Reordered e f k → Reordered f e k
reordered_back e f k r = record {
  to = r.back;
  back = r.to;
  to_in = r.back_in;
  back_in = r.to_in;
  to_back = r.back_to;
  back_to = r.to_back;
  same = λ j h. ap e (sym (r.to_back j h)) ∙ sym (r.same (r.back j) (r.back_in j h));
}

-- what is made of each is reordered with them
pub reordered_by : {A : Type 0} {B : Type 0} (make : A → B) (e f : ℕ → A) (d g : ℕ → B) (k : ℕ) → Reordered e f k
    → ((j : ℕ) → j < k → d j ≡ make (e j)) → ((j : ℕ) → j < k → g j ≡ make (f j)) → Reordered d g k
reordered_by make e f d g k r x y = record {
  to = r.to;
  back = r.back;
  to_in = r.to_in;
  back_in = r.back_in;
  to_back = r.to_back;
  back_to = r.back_to;
  same = λ j h. y j h ∙ ap make (r.same j h) ∙ sym (x (r.to j) (r.to_in j h));
}

-- tests that say the same where they hold
same_test : (a b : Bool) → (a ≡ true → b ≡ true) → (b ≡ true → a ≡ true) → a ≡ b
same_test a b f g = elim (which b) [
  | inl u ↦ g u ∙ sym u
  | inr u ↦ elim (which a) [ inl t ↦ t ∙ sym (f t) | inr t ↦ t ∙ sym u ]
]

-- ---- each test of the list says the same of both

all_over : (e f : ℕ → Edit) (k : ℕ) → Reordered e f k → (test : Edit → Bool)
    → all_below k (λ j. test (e j)) ≡ true → all_below k (λ j. test (f j)) ≡ true
all_over e f k r test t =
    all_of (λ j. test (f j)) k
    (λ j h. ap test (r.same j h) ∙ all_at (λ i. test (e i)) k (r.to j) t (r.to_in j h))

differ_over : (e f : ℕ → Edit) (k : ℕ) → Reordered e f k → all_differ (λ j. (e j).id) k ≡ true
    → all_differ (λ j. (f j).id) k ≡ true
differ_over e f k r t =
    (differ_decide f k).passed
    (λ j h i g q.
    let i₁ : i < k = omega arith in
    let n : r.to i ≡ r.to j
    = differ (λ a. (e a).id) k t (r.to i) (r.to j) (r.to_in i i₁) (r.to_in j h)
    (ap (λ (a : Edit). a.id) (sym (r.same i i₁)) ∙ q ∙ ap (λ (a : Edit). a.id) (r.same j h)) in
    let z : i ≡ j = sym (r.back_to i i₁) ∙ ap r.back n ∙ r.back_to j h in
    omega arith)

-- ---- what strings get by many, in another order

-- f is what strings get by the first k of v: each of its values is one of theirs, and each of theirs is there
pub record Collects (f : Values) (v : ℕ → Values) (k : ℕ) : Type 0 where
  pub from : (i : ℕ) (x : List ℕ) → f i ≡ some x → (j : ℕ) × (j < k) × (v j i ≡ some x)
  pub at : (i j : ℕ) (x : List ℕ) → j < k → v j i ≡ some x → f i ≡ some x

collected_over : (f g : Values) (v w : ℕ → Values) (k : ℕ) → Collects f v k → Collects g w k → Reordered v w k
    → (i : ℕ) (x : List ℕ) → f i ≡ some x → g i ≡ some x
collected_over f g v w k a b r i x q =
    let (j, h, p) = a.from i x q in
    let n : r.back j < k = r.back_in j h in
    b.at i (r.back j) x n (ap (λ (u : Values). u i) (r.same (r.back j) n ∙ ap v (r.to_back j h)) ∙ p)

pub collected_same : (f g : Values) (v w : ℕ → Values) (k : ℕ) → Collects f v k → Collects g w k → Reordered v w k → f ≡ g
collected_same f g v w k a b r = fun_ext (λ i. elim (some_or_none (f i)) [
  | inr (x, q) ↦ q ∙ sym (collected_over f g v w k a b r i x q)
  | inl q ↦ elim (some_or_none (g i)) [
    | inl p ↦ q ∙ sym p
    | inr (x, p) ↦ absurd (none-some x (sym q ∙ collected_over g f w v k b a (reordered_back v w k r) i x p))
  ]
])

-- ---- by edits, if their ids differ

-- what strings get by one
abbrev pub one_of : Edit → Values
one_of a = only a.id a.value

value_from : (e : ℕ → Edit) (k i : ℕ) (x : List ℕ) → values_of e k i ≡ some x
    → (j : ℕ) × (j < k) × (one_of (e j) i ≡ some x)
unfolding values_of
value_from e zero i x q = absurd (none-some x q)
value_from e (suc k) i x q = go (eqb i (e k).id) refl q (value_from e k i x)
  where
    go : (b : Bool) → eqb i (e k).id ≡ b → pick b (some (e k).value) (values_of e k i) ≡ some x
        → (values_of e k i ≡ some x → (j : ℕ) × (j < k) × (one_of (e j) i ≡ some x))
        → (j : ℕ) × (j < suc k) × (one_of (e j) i ≡ some x)
    go true t p rest = (k, omega arith, rw t p)
    go false t p rest = let (j, h, y) = rest p in (j, omega arith, y)

edits_collected : (e : ℕ → Edit) (k : ℕ) → all_differ (λ j. (e j).id) k ≡ true → Collects (values_of e k) (λ j. one_of (e j)) k
edits_collected e k t = record {
  from = value_from e k;
  at = λ i j x h p.
      let q : i ≡ (e j).id = only-id (e j).id (e j).value i x p in
      values_at e i k j h (sym q) (λ n g l z. omega (arith, differ (λ a. (e a).id) k t n j g h (z ∙ q)))
      ∙ sym (only_own (e j).id (e j).value) ∙ rw q at p;
}

values_same : (e f : ℕ → Edit) (k : ℕ) → Reordered e f k → all_differ (λ j. (e j).id) k ≡ true → values_of e k ≡ values_of f k
values_same e f k r t =
    collected_same (values_of e k) (values_of f k) (λ j. one_of (e j)) (λ j. one_of (f j)) k
    (edits_collected e k t) (edits_collected f k (differ_over e f k r t))
    (reordered_by one_of e f (λ j. one_of (e j)) (λ j. one_of (f j)) k r (λ j h. refl) (λ j h. refl))

-- ---- the pass

module _ (m : Mode) (l : Layout) (s : List ℕ) where
  -- what a pass makes of its tests, and of what strings get
  abbrev pass_of : Bool → Bool → Bool → Values → Outcome
  pass_of known differ valid v =
      outcome_for
      (judge
      (checks l s
      ++ (check refusals.id (not known)
      ∷ check refusals.twice (not differ)
      ∷ check refusals.value (not valid)
      ∷ result_checks m l s v)))
      (patched_strings m l s v)

  pass_of_lem : (e : ℕ → Edit) (k : ℕ) → patch_in_pass m l s e k
      ≡ pass_of (all_known (λ j. (e j).id) k (strings_in s)) (all_differ (λ j. (e j).id) k) (all_utf8 (λ j. (e j).value) k) (values_of e k)
  unfolding patch_in_pass pass_refusal
  pass_of_lem e k = refl

  -- where an id is given twice, nothing behind that is looked at
  pass_twice : (known b c : Bool) (v w : Values) → pass_of known false b v ≡ pass_of known false c w
  unfolding judge
  pass_twice known b c v w =
      rw (judged_then l s, judged_then l s) (go (eqb (refusal l s) 0) refl known)
    where
      go : (z : Bool) → eqb (refusal l s) 0 ≡ z → (known : Bool)
          → outcome_for (pick z (pick (not known) 7 17) (refusal l s)) (patched_strings m l s v)
          ≡ outcome_for (pick z (pick (not known) 7 17) (refusal l s)) (patched_strings m l s w)
      go true t true = refl
      go true t false = refl
      go false t known = rw t

  -- THE ORDER OF A LIST OF EDITS DOES NOT MATTER
  pub order_free : (e f : ℕ → Edit) (k : ℕ) → Reordered e f k → patch_in_pass m l s e k ≡ patch_in_pass m l s f k
  order_free e f k r =
      let q = reordered_back e f k r in
      let known : Edit → Bool = λ a. ltb a.id (strings_in s) in
      let valid : Edit → Bool = λ a. is_utf8 a.value in
      let a : all_known (λ j. (e j).id) k (strings_in s) ≡ all_known (λ j. (f j).id) k (strings_in s)
      = same_test _ _ (all_over e f k r known) (all_over f e k q known) in
      let b : all_differ (λ j. (e j).id) k ≡ all_differ (λ j. (f j).id) k
      = same_test _ _ (differ_over e f k r) (differ_over f e k q) in
      let c : all_utf8 (λ j. (e j).value) k ≡ all_utf8 (λ j. (f j).value) k
      = same_test _ _ (all_over e f k r valid) (all_over f e k q valid) in
      pass_of_lem e k
      ∙ elim (which (all_differ (λ j. (e j).id) k)) [
        | inl t ↦ rw (a, b, c, values_same e f k r t)
        | inr t ↦ rw (a, sym b ∙ t, t)
            (pass_twice (all_known (λ j. (f j).id) k (strings_in s)) (all_utf8 (λ j. (e j).value) k) (all_utf8 (λ j. (f j).value) k)
            (values_of e k) (values_of f k))
      ]
      ∙ sym (pass_of_lem f k)
