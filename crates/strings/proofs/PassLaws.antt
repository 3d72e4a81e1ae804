-- The order of refusals over a list of edits; where none is given, the patch of known strings decides.
use Rattle.std.specs.Prelude.{Err, Ok, Result}
use mathlib.Core.Path.{◌≡◌, refl, ap, sym, ◌∙◌, subst, fun_ext}
use mathlib.Core.Bool.{Bool, true, false, not}
use mathlib.Core.Option.{none, some}
use mathlib.Core.List.{List, [], ◌∷◌}
use Prim.Native.Nat.{ℕ, ◌-◌, ◌<◌}
use native.Mathlib.Omega.{arith}
use borrow.Author.Tests.{ltb-true, not-true, not-false}
use lib.Dec.{ltb, eqb}
use lib.ListN.{length, get_or}
use Rattle.bits.specs.Choice.{pick, check, judge}
use Rattle.bits.specs.Bytes.{bytes_at}
use Rattle.bits.specs.Outcome.{Answers, roomed, outcome_for}
use Rattle.bits.proofs.TestLaws.{all_at}
use Rattle.bits.proofs.ByteLaws.{bytes_at_self}
use Rattle.format.specs.declared.Layout.{Layout}
use Rattle.format.specs.declared.Mode.{Mode}
use Rattle.image.specs.Sections.{strings_in}
use Rattle.sections.specs.declared.Places.{Places}
use Rattle.admission.specs.Admission.{admission}
use Rattle.admission.proofs.AnswerLaws.{laid_then}
use Rattle.string_edits.specs.Values.{Values, only, values_of}
use Rattle.string_edits.specs.declared.Form.TheVariants.{Ids}
use Rattle.string_edits.specs.Lists.{start_in, edit_in, value_in, values_listed, is_list, all_known, all_differ, all_utf8}
use Rattle.string_edits.specs.Told.{told, Tells, Listed}
use Rattle.string_edits.proofs.ListLaws.{IsOne, is_one}
use Rattle.string_in_place.specs.Patch.{result_checks, patched_strings, patch_known}
use Rattle.strings.specs.Pass.{pass_refusal, patch_in_pass, patch_strings}
use Rattle.strings.proofs.PatchLaws.{Admits, strings_is, layout_is, refused_all}

module _ (m : Mode) (l : Layout) (s ids text ends out : List ℕ) where
  -- the three are no list of edits
  pub no_list : (b : Bool) → b ≡ is_list ids text ends → not b ≡ true
      → Answers (roomed (length out) (patch_strings m l s ids text ends)) (Err 15) out out
  unfolding patch_strings roomed
  no_list b e t = rw (← e, not-true b t) (refl, refl)

  module _ (b : Bool) (e : b ≡ is_list ids text ends) (t : not b ≡ false) where
    a_list : patch_strings m l s ids text ends ≡ patch_in_pass m l s (edit_in ids text ends) (length ids)
    unfolding patch_strings
    a_list = rw (← e, not-false b t)

    pub list_one : IsOne ids text ends
    list_one = is_one ids text ends (sym e ∙ not-false b t)

    -- the image is not admitted
    pub list_refused : (r : Result Places ℕ) → r ≡ admission l s → (k : ℕ) → r ≡ Err k
        → Answers (roomed (length out) (patch_strings m l s ids text ends)) (Err k) out out
    unfolding patch_in_pass pass_refusal
    list_refused r a k f = rw a_list (refused_all l s r a _ (patched_strings m l s (values_listed ids text ends)) out k f)

-- the three are a list of edits, and the image is admitted
pub record Judging (l : Layout) (s ids text ends : List ℕ) (r : Result Places ℕ) (p : Places) (b : Bool) : Type 0 where
  pub list : b ≡ is_list ids text ends
  pub one : not b ≡ false
  pub admits : Admits l s r p

-- the answers of the tests of a list
pub record Tests (ids text ends : List ℕ) (strings : ℕ) (known differ valid : Bool) : Type 0 where
  pub there : known ≡ all_known (λ j. get_or ids j 0) (length ids) strings
  pub twice : differ ≡ all_differ (λ j. get_or ids j 0) (length ids)
  pub values : valid ≡ all_utf8 (value_in text ends) (length ends)

module _ (m : Mode) (l : Layout) (s ids text ends out : List ℕ) (r : Result Places ℕ) (p : Places) (b : Bool)
    (j : Judging l s ids text ends r p b) (c d g : Bool) (t : Tests ids text ends p.strings c d g) where
  known_is : c ≡ all_known (λ j. get_or ids j 0) (length ids) (strings_in s)
  known_is = t.there ∙ ap (all_known (λ j. get_or ids j 0) (length ids)) (strings_is l s r p j.admits)

  valid_is : g ≡ all_utf8 (value_in text ends) (length ids)
  valid_is = t.values ∙ ap (all_utf8 (value_in text ends)) (list_one m l s ids text ends out b j.list j.one).many

  behind : patch_strings m l s ids text ends
      ≡ outcome_for (judge (check 7 (not c) ∷ check 17 (not d) ∷ check 8 (not g) ∷ result_checks m l s (values_listed ids text ends)))
      (patched_strings m l s (values_listed ids text ends))
  unfolding patch_in_pass pass_refusal
  behind =
      a_list m l s ids text ends out b j.list j.one ∙ rw (known_is, t.twice, valid_is)
      (ap (λ (n : ℕ). outcome_for n (patched_strings m l s (values_listed ids text ends)))
      (laid_then l s r j.admits.is p j.admits.laid _))

  pub not_known : not c ≡ true → Answers (roomed (length out) (patch_strings m l s ids text ends)) (Err 7) out out
  unfolding judge roomed
  not_known u = rw (behind, u) (refl, refl)

  module _ (u : not c ≡ false) where
    pub given-twice : not d ≡ true → Answers (roomed (length out) (patch_strings m l s ids text ends)) (Err 17) out out
    unfolding judge roomed
    given-twice v = rw (behind, u, v) (refl, refl)

    module _ (v : not d ≡ false) where
      pub not_valid : not g ≡ true → Answers (roomed (length out) (patch_strings m l s ids text ends)) (Err 8) out out
      unfolding judge roomed
      not_valid w = rw (behind, u, v, w) (refl, refl)

      -- nothing is wrong with the list
      pub list_known : not g ≡ false → (a : Result ℕ ℕ) (o : List ℕ)
          → Answers (roomed (length out) (patch_known m p.layout s (values_listed ids text ends))) a out o
          → Answers (roomed (length out) (patch_strings m l s ids text ends)) a out o
      unfolding judge patch_known
      list_known w a o k = rw (behind, u, v, w) (rw (layout_is l s r p j.admits) at k)

-- each id is one of the strings
pub ids_known : (ids : List ℕ) (n : ℕ) (b : Bool) → b ≡ all_known (λ j. get_or ids j 0) (length ids) n → not b ≡ false
    → (id j : ℕ) → Tells (told Ids ids) id j → id < n
ids_known ids n b e f id j t =
    rw (← t.1) (ltb-true (get_or ids j 0) n (all_at (λ i. ltb (get_or ids i 0) n) (length ids) j (sym e ∙ not-false b f) t.0))

-- ---- the list of one

pub one_listed : (id : ℕ) (value : List ℕ) → Listed (told Ids (id ∷ [])) value (length value ∷ [])
unfolding start_in
one_listed id value = record {
  within = λ i j t.
      let e : j ≡ 0 = omega (arith, t.0) in
      rw e (record { known = omega arith; rising = omega arith; end = omega arith });
  one = λ i j k t u. omega (arith, t.0, u.0);
}

pub one_known : (id n : ℕ) → id < n → (i j : ℕ) → Tells (told Ids (id ∷ [])) i j → i < n
one_known id n h i j t =
    let e : j ≡ 0 = omega (arith, t.0) in
    let q : id ≡ i = rw e at t.1 in
    omega arith

pub one_values : (id : ℕ) (value : List ℕ) → values_listed (id ∷ []) value (length value ∷ []) ≡ only id value
unfolding values_of value_in start_in
one_values id value =
    let e : length value - 0 ≡ length value = omega arith in
    fun_ext (λ i. ap (λ (x : List ℕ). pick (eqb i id) (some x) none) (ap (bytes_at value 0) e ∙ bytes_at_self value))

-- so an answer for the list is one for the string
pub one_answers : (m : Mode) (l : Layout) (s : List ℕ) (id : ℕ) (value out : List ℕ) (a : Result ℕ ℕ) (o : List ℕ)
    → Answers (roomed (length out) (patch_known m l s (values_listed (id ∷ []) value (length value ∷ [])))) a out o
    → Answers (roomed (length out) (patch_known m l s (only id value))) a out o
one_answers m l s id value out a o h =
    subst (λ (v : Values). Answers (roomed (length out) (patch_known m l s v)) a out o) (one_values id value) h
