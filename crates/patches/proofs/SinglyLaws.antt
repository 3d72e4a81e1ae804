-- Many strings in one pass: where the same patches, made singly, are all accepted, the pass makes what they make. 02, No. 4.
use mathlib.Core.Path.{◌≡◌, refl, ap, sym, ◌∙◌, subst, fun_ext}
use mathlib.Core.Bool.{true}
use mathlib.Core.Logic.{inl, inr}
use mathlib.Core.Option.{none, some}
use mathlib.Core.List.{List}
use Prim.Native.Nat.{ℕ, zero, suc, ◌<◌}
use native.Mathlib.Omega.{arith}
use borrow.Author.Tests.{leb-false, le-ltb, lt-ltb, not-false}
use lib.Dec.{eqb}
use Rattle.bits.specs.Choice.{all_below, judge}
use Rattle.bits.specs.Outcome.{Outcome, refused, made}
use Rattle.bits.proofs.TestLaws.{which, both_1}
use Rattle.bits.proofs.JudgeLaws.{judge_pass}
use Rattle.format.specs.declared.Layout.{Layout}
use Rattle.format.specs.declared.Mode.{Mode}
use Rattle.footer.specs.Finalize.{size_limit}
use Rattle.image.specs.Sections.{strings_in}
use Rattle.image.specs.Admitted.{Admitted}
use Rattle.image.proofs.AdmitLaws.{not_refused}
use Rattle.edits.proofs.FrameLaws.{Restrung}
use Rattle.edits.proofs.ReadLaws.{string_count-same}
use Rattle.admission.proofs.AnswerLaws.{judged_then, judged_none}
use Rattle.utf.specs.Utf8.{is_utf8}
use Rattle.string_edits.specs.Values.{Values, only, joined, Apart, Edit, values_of}
use Rattle.string_edits.specs.Lists.{all_known, is_new, all_differ, all_utf8}
use Rattle.string_edits.proofs.TurnLaws.{none-some, only-id}
use Rattle.string_in_place.specs.Patch.{patched_strings, new_length}
use Rattle.strings.specs.Patch.{by_id_refusal, patch_by_id}
use Rattle.strings.specs.Pass.{pass_refusal, patch_in_pass, onward, singly}
use Rattle.patches.specs.Patches.{in_pass}
use Rattle.patches.specs.Lists.{InBytes}
use Rattle.string_edits.proofs.ListLaws.{differ, values_none}
use Rattle.patches.proofs.StringLaws.{StringsPassed}
use Rattle.patches.proofs.StepLaws.{made_of, id_passed, pass_passed}
use Rattle.patches.proofs.OneEditLaws.{list_of_one}
use Rattle.patches.proofs.AfterLaws.{patched_restrung}
use Rattle.patches.proofs.ThenLaws.{PatchThen, joined_passed, patch_then}

-- ---- what strings get by one edit more

module _ (e : ℕ → Edit) (k : ℕ) where
  values_more : joined (values_of e k) (only (e k).id (e k).value) ≡ values_of e (suc k)
  unfolding values_of
  values_more = fun_ext (λ i. elim (which (eqb i (e k).id)) [ inl t ↦ rw t | inr t ↦ rw t ])

  -- no edit before it is of its string
  values_apart : all_differ (λ j. (e j).id) (suc k) ≡ true → Apart (values_of e k) (only (e k).id (e k).value)
  values_apart t i x y p q =
      let h : i ≡ (e k).id = only-id (e k).id (e k).value i y q in
      let n : values_of e k i ≡ none
      = values_none e i k (λ j g z. omega (arith, differ (λ a. (e a).id) (suc k) t j k (omega arith) (omega arith) (z ∙ h))) in
      none-some x (sym n ∙ p)

-- ---- when a pass is accepted

-- each id is one of the strings, the ids differ, each value is UTF-8
record ListPassed (s : List ℕ) (e : ℕ → Edit) (k : ℕ) : Type 0 where
  known : all_known (λ j. (e j).id) k (strings_in s) ≡ true
  differ : all_differ (λ j. (e j).id) k ≡ true
  valid : all_utf8 (λ j. (e j).value) k ≡ true

list_passed : (m : Mode) (l : Layout) (s : List ℕ) (e : ℕ → Edit) (k : ℕ) (t : List ℕ) → patch_in_pass m l s e k ≡ made t
    → ListPassed s e k
unfolding patch_in_pass pass_refusal
list_passed m l s e k t q =
    let (n, p) = made_of _ _ _ q in
    let f = (judged_none l s _ n).1 in
    let (known, f₁) = judge_pass _ _ (omega arith) f in
    let (differ, f₂) = judge_pass _ _ (omega arith) f₁ in
    let (valid, f₃) = judge_pass _ _ (omega arith) f₂ in
    record {
      known = not-false (all_known (λ j. (e j).id) k (strings_in s)) known;
      differ = not-false (all_differ (λ j. (e j).id) k) differ;
      valid = not-false (all_utf8 (λ j. (e j).value) k) valid;
    }

pass_unrefused : (m : Mode) (l : Layout) (s : List ℕ) (e : ℕ → Edit) (k : ℕ) → ListPassed s e k
    → StringsPassed m l s (values_of e k) → pass_refusal m l s e k ≡ 0
unfolding pass_refusal judge
pass_unrefused m l s e k lp ok =
    judged_then l s _
    ∙ rw (
      not_refused l s ok.admitted,
      lp.known,
      lp.differ,
      lp.valid,
      le-ltb size_limit (new_length m l s (values_of e k)) ok.limit,
      ok.field,
    )

pass_made : (m : Mode) (l : Layout) (s : List ℕ) (e : ℕ → Edit) (k : ℕ) → ListPassed s e k → StringsPassed m l s (values_of e k)
    → patch_in_pass m l s e k ≡ made (patched_strings m l s (values_of e k))
unfolding patch_in_pass
pass_made m l s e k lp ok = rw (pass_unrefused m l s e k lp ok)

-- ---- one edit more

-- a patch by id that is accepted is of a string that there is, with a value in UTF-8
id_checked : (m : Mode) (l : Layout) (s : List ℕ) (id : ℕ) (value t : List ℕ) → patch_by_id m l s id value ≡ made t
    → (id < strings_in s) × (is_utf8 value ≡ true)
unfolding patch_by_id by_id_refusal
id_checked m l s id value t e =
    let (n, p) = made_of _ _ _ e in
    let (known, f) = judge_pass _ _ (omega arith) (judged_none l s _ n).1 in
    let (valid, g) = judge_pass _ _ (omega arith) f in
    (leb-false (strings_in s) id known, not-false (is_utf8 value) valid)

-- a pass of k edits makes u, and then edit k makes t of it; the ids differ
record OneFurther (m : Mode) (l : Layout) (s : List ℕ) (e : ℕ → Edit) (k : ℕ) (u t : List ℕ) : Type 0 where
  admitted : Admitted l s
  bytes : InBytes (in_pass m e (suc k))
  differ : all_differ (λ j. (e j).id) (suc k) ≡ true
  pass : patch_in_pass m l s e k ≡ made u
  next : patch_by_id m l u (e k).id (e k).value ≡ made t

module _ (m : Mode) (l : Layout) (s : List ℕ) (e : ℕ → Edit) (k : ℕ) (u t : List ℕ) (fu : OneFurther m l s e k u t) where
  abbrev v : Values
  v = values_of e k

  abbrev d : Values
  d = only (e k).id (e k).value

  abbrev x : List ℕ
  x = patched_strings m l s v

  passed : StringsPassed m l s v × (x ≡ u)
  passed = pass_passed l s fu.admitted m e k u (λ j h. fu.bytes j (omega arith)) fu.pass

  frame : Restrung l s x
  frame = patched_restrung m l s v passed.0

  next_x : patch_by_id m l x (e k).id (e k).value ≡ made t
  next_x = rw passed.1 fu.next

  checked : ((e k).id < strings_in s) × (is_utf8 (e k).value ≡ true)
  checked = rw (string_count-same l s x frame.counts) at (id_checked m l x (e k).id (e k).value t next_x)

  next_passed : StringsPassed m l x d × (patched_strings m l x d ≡ t)
  next_passed = id_passed l x frame.admitted m (e k).id (e k).value t (fu.bytes k (omega arith)) next_x

  then : PatchThen m l s v d
  then = record { first = passed.0; next = next_passed.0; apart = values_apart e k fu.differ }

  list_more : ListPassed s e (suc k)
  unfolding all_below
  list_more =
      let lp = list_passed m l s e k u fu.pass in
      record {
        known = rw (lt-ltb (e k).id (strings_in s) checked.0) lp.known;
        differ = fu.differ;
        valid = rw checked.1 lp.valid;
      }

  further_made : patch_in_pass m l s e (suc k) ≡ made t
  further_made =
      pass_made m l s e (suc k) list_more (subst (StringsPassed m l s) (values_more e k) (joined_passed m l s v d then))
      ∙ ap (λ (w : Values). made (patched_strings m l s w)) (sym (values_more e k))
      ∙ ap made (sym (patch_then m l s v d then) ∙ next_passed.1)

-- ---- all of a list

-- "Where there are edits and applying them singly, in list order and in the same mode, is accepted each time": t is that last image
pub record AllSingly (m : Mode) (l : Layout) (s : List ℕ) (e : ℕ → Edit) (k : ℕ) (t : List ℕ) : Type 0 where
  pub admitted : Admitted l s
  pub some : 0 < k
  pub bytes : InBytes (in_pass m e k)
  pub differ : all_differ (λ j. (e j).id) k ≡ true
  pub accepted : singly m l s e k ≡ made t

-- the first of them
singly_fewer : (m : Mode) (l : Layout) (s : List ℕ) (e : ℕ → Edit) (k : ℕ) (t u : List ℕ) → AllSingly m l s e (suc (suc k)) t
    → singly m l s e (suc k) ≡ made u → AllSingly m l s e (suc k) u
unfolding all_below
singly_fewer m l s e k t u al q = record {
  admitted = al.admitted;
  some = omega arith;
  bytes = λ j h. al.bytes j (omega arith);
  differ = both_1 (is_new (λ j. (e j).id) (suc k)) (all_differ (λ j. (e j).id) (suc k)) al.differ;
  accepted = q;
}

-- THE PASS MAKES WHAT THE SINGLE PATCHES MAKE: "the bytes must equal that last image"
pub singly_made : (m : Mode) (l : Layout) (s : List ℕ) (e : ℕ → Edit) (k : ℕ) (t : List ℕ) → AllSingly m l s e k t
    → patch_in_pass m l s e k ≡ made t
unfolding singly
singly_made m l s e zero t al = absurd (omega (arith, al.some))
singly_made m l s e (suc zero) t al = list_of_one m l s e ∙ al.accepted
singly_made m l s e (suc (suc k)) t al =
    go (singly m l s e (suc k)) (λ u q. singly_made m l s e (suc k) u (singly_fewer m l s e k t u al q)) al.accepted
  where
    go : (o : Outcome) → ((u : List ℕ) → o ≡ made u → patch_in_pass m l s e (suc k) ≡ made u)
        → onward o (λ u. patch_by_id m l u (e (suc k)).id (e (suc k)).value) ≡ made t → patch_in_pass m l s e (suc (suc k)) ≡ made t
    go (refused n) pass q = absurd (let z : ◌≡◌ {A = ℕ} 0 1 = cc in omega arith)
    go (made u) pass q =
        further_made m l s e (suc k) u t
        (record { admitted = al.admitted; bytes = al.bytes; differ = al.differ; pass = pass u refl; next = q })
