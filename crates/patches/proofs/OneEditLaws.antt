-- A pass and patches by id: a list of one edit is patched as its string is by id, and a patch by id never meets 17.
use mathlib.Core.Path.{◌≡◌, refl}
use mathlib.Core.Bool.{Bool, true, false, not}
use mathlib.Core.Logic.{inl, inr}
use mathlib.Core.List.{List}
use Prim.Native.Nat.{ℕ, ◌≤◌}
use native.Mathlib.Omega.{arith}
use borrow.Author.Tests.{ltb-true, ltb-false, lt-leb, le-leb}
use lib.Dec.{leb, ltb}
use Rattle.refusals.specs.Numbers as refusals
use Rattle.bits.specs.Choice.{both, all_below, judge}
use Rattle.bits.specs.Outcome.{refused, made}
use Rattle.bits.proofs.TestLaws.{which, is-refused}
use Rattle.bits.proofs.JudgeLaws.{judge_most}
use Rattle.format.specs.declared.Layout.{Layout}
use Rattle.format.specs.declared.Mode.{Mode}
use Rattle.image.specs.Admission.{checks}
use Rattle.admission.proofs.AnswerLaws.{judged_then}
use Rattle.string_edits.specs.Values.{Edit, values_of}
use Rattle.strings.specs.Patch.{by_id_refusal, patch_by_id}
use Rattle.strings.specs.Pass.{pass_refusal, patch_in_pass}

both_true : (b : Bool) → both b true ≡ b
both_true true = refl
both_true false = refl

not_below : (n k : ℕ) → not (both (ltb n k) true) ≡ leb k n
not_below n k = elim (which (ltb n k)) [
  | inl t ↦ rw (t, lt-leb k n (ltb-true n k t))
  | inr t ↦ rw (t, le-leb k n (ltb-false n k t))
]

-- A LIST OF ONE EDIT IS PATCHED AS ITS STRING IS BY ID
pub list_of_one : (m : Mode) (l : Layout) (s : List ℕ) (e : ℕ → Edit)
    → patch_in_pass m l s e 1 ≡ patch_by_id m l s (e 0).id (e 0).value
unfolding patch_in_pass pass_refusal patch_by_id by_id_refusal values_of all_below judge
list_of_one m l s e = rw (not_below, both_true, judged_then l s, judged_then l s)

-- the numbers of a patch by id end with 12
id_most : (m : Mode) (l : Layout) (s : List ℕ) (id : ℕ) (value : List ℕ) → by_id_refusal m l s id value ≤ refusals.field
unfolding by_id_refusal checks
id_most m l s id value = judge_most refusals.field 1 _ refl

-- so that it is never refused for an id given twice
pub no_twice : (m : Mode) (l : Layout) (s : List ℕ) (id : ℕ) (value : List ℕ)
    → patch_by_id m l s id value ≡ refused refusals.twice → ⊥
unfolding patch_by_id
no_twice m l s id value e =
    let n : ℕ = by_id_refusal m l s id value in
    let (h, q) = is-refused n (made _) refused (refused 17) e (λ z. let y : ◌≡◌ {A = ℕ} 0 1 = cc in omega arith) in
    let z : n ≡ 17 = cc in
    omega (arith, id_most m l s id value)
