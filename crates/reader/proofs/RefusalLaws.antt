-- A string or a body is refused exactly where 01 says so: where its image is, and then with 7 where there is no such id.
use mathlib.Core.Path.{◌≡◌, refl, sym, ◌∙◌}
use mathlib.Core.Bool.{Bool, true, false}
use mathlib.Core.Logic.{◌↔◌}
use mathlib.Core.List.{List, [], ◌∷◌}
use Prim.Native.Nat.{ℕ, ◌≤◌, ◌<◌}
use native.Mathlib.Omega.{arith}
use lib.Dec.{leb, eqb}
use borrow.Author.Tests.{le-leb, lt-leb, leb-true, eqb-true, ne_eqb}
use Rattle.bits.specs.Choice.{pick, check, judge}
use Rattle.format.specs.declared.Layout.{Layout}
use Rattle.image.specs.Admission.{refusal}
use Rattle.image.proofs.FaultLaws.{refusal_most}
use Rattle.admission.proofs.AnswerLaws.{judged_then}
use Rattle.reader.specs.Reading.{id_refusal}
use Rattle.reader.proofs.ReadingLaws.{judged_behind, read_is}

module _ (l : Layout) (s : List ℕ) (count id : ℕ) where
  number : id_refusal l s count id ≡ pick (eqb (refusal l s) 0) (pick (leb count id) 7 0) (refusal l s)
  unfolding judge
  number = judged_behind l s count id ∙ judged_then l s (check 7 (leb count id) ∷ [])

  pub found_exactly : id_refusal l s count id ≡ 0 ↔ ((refusal l s ≡ 0) × (id < count))
  found_exactly = (read_is l s count id, λ x. number ∙ rw (x.0, lt-leb count id x.1))

  pub absent_exactly : id_refusal l s count id ≡ 7 ↔ ((refusal l s ≡ 0) × (count ≤ id))
  absent_exactly = (
    λ e. go (eqb (refusal l s) 0) refl (leb count id) refl (sym number ∙ e),
    λ x. number ∙ rw (x.0, le-leb count id x.1),
  )
    where
      go : (b : Bool) → eqb (refusal l s) 0 ≡ b → (t : Bool) → leb count id ≡ t → pick b (pick t 7 0) (refusal l s) ≡ 7
          → (refusal l s ≡ 0) × (count ≤ id)
      go true h true g q = (eqb-true (refusal l s) 0 h, leb-true count id g)
      go true h false g q = absurd (omega arith)
      go false h t g q = absurd (omega (arith, refusal_most l s))

  pub refused_exactly : (n : ℕ) → 0 < n → n ≤ 6 → id_refusal l s count id ≡ n ↔ refusal l s ≡ n
  refused_exactly n a b = (
    λ e. go (eqb (refusal l s) 0) (leb count id) (sym number ∙ e),
    λ x. number ∙ rw (x, ne n a),
  )
    where
      go : (b : Bool) (t : Bool) → pick b (pick t 7 0) (refusal l s) ≡ n → refusal l s ≡ n
      go true true q = absurd (omega arith)
      go true false q = absurd (omega arith)
      go false t q = q

      ne : (n : ℕ) → 0 < n → eqb n 0 ≡ false
      ne n h = ne_eqb n 0 (λ y. omega arith)
