-- The numbers of a reason: each is given exactly where its fault is there and none that is due before it; and but for the index's 13 they
-- are those of the patch.
use mathlib.Core.Path.{◌≡◌, refl, sym, ◌∙◌}
use mathlib.Core.Bool.{Bool, true, false}
use mathlib.Core.Logic.{◌⊎◌, inl, inr, ◌≢◌, ◌↔◌}
use mathlib.Core.List.{List, [], ◌∷◌, ◌++◌}
use Prim.Native.Nat.{ℕ, ◌≤◌, ◌<◌}
use native.Mathlib.Omega.{arith}
use borrow.Author.Tests.{lt-ltb, ltb-true, eqb-true}
use lib.Dec.{ltb, eqb}
use lib.ListN.{length}
use Rattle.refusals.specs.Order.{of_reason, turn_in}
use Rattle.bits.specs.Choice.{pick, both, either, Check, check, judge}
use Rattle.bits.proofs.TestLaws.{which, below_or, both_0, either_or, either_true}
use Rattle.bits.proofs.JudgeLaws.{rising, given, numbered, Shows, Shows.nothing, Shows.◌also◌, shows_append, shows_map}
use Rattle.bits.proofs.JudgeLaws.{given_first, given_last, judge_append, judge_shows}
use Rattle.format.specs.declared.Layout.{Layout}
use Rattle.format.specs.declared.Mode.{Mode}
use Rattle.image.specs.Sections.{strings_in}
use Rattle.image.specs.Admission.{checks}
use Rattle.image.specs.Faults.{Fault}
use Rattle.image.proofs.FaultLaws as faults
use Rattle.string_index.specs.Index.{words_for}
use Rattle.strings.specs.Patch.{by_id_refusal}
use Rattle.patches.specs.Patches.{Patch, by_id}
use Rattle.patches.specs.Faults.PatchFault.{bad_image}
use Rattle.patches.proofs.OrderLaws.{in_turns, InOrder, not-zero, some, judged_in_order}
use Rattle.patches.proofs.ExactLaws.{own_checks, room_check, own_shows, own_gives}
use Rattle.string_reasons.specs.Reasons.{reason_refusal}
use Rattle.string_reasons.specs.Facts.{ReasonFault, of_patch, short_index}

-- a turn is at most the length of the order
pub turn_most : (o : List ℕ) (n : ℕ) → turn_in o n ≤ length o
unfolding turn_in
turn_most [] n = omega arith
turn_most (k ∷ ks) n = elim (which (eqb k n)) [
  | inl t ↦ rw t (omega arith)
  | inr f ↦ rw f (omega (arith, turn_most ks n))
]

-- ---- checks taken apart

shown : (F : ℕ → Type 0) (c : Check) (cs : List Check) → Shows F (c ∷ cs) → c.met ≡ true → F c.number
shown F c cs (f also r) t = f t

others : (F : ℕ → Type 0) (c : Check) (cs : List Check) → Shows F (c ∷ cs) → Shows F cs
others F c cs (f also r) = r

given_or : (n : ℕ) (xs ys : List Check) → given n (xs ++ ys) ≡ true → (given n xs ≡ true) ⊎ (given n ys ≡ true)
given_or n [] ys g = inr g
given_or n (c ∷ cs) ys g =
    elim (either_or (both (eqb c.number n) c.met) (given n (cs ++ ys)) g) [
      | inl h ↦ inl (rw h)
      | inr h ↦ elim (given_or n cs ys h) [ inl k ↦ inl (simp (k, either_true)) | inr k ↦ inr k ]
    ]

module _ (m : Mode) (l : Layout) (s : List ℕ) (words id : ℕ) (value : List ℕ) where
  abbrev F : ℕ → Type 0
  F = ReasonFault m l s words id value

  abbrev patch : Patch
  patch = by_id m id value

  abbrev short : Bool
  short = ltb words (words_for (strings_in s))

  abbrev behind : List Check
  behind = check 13 short ∷ own_checks l s patch

  -- ---- a check that is met is a fault

  -- no fault of an image has the number 13
  image_number : (n : ℕ) → Fault l s n → n ≢ 13
  unfolding checks
  image_number n x e =
      let g : given 13 (checks l s) ≡ true = rw e at (faults.gives l s n x) in
      let z : ◌≡◌ {A = ℕ} 0 1 = cc in
      omega arith

  behind_shows : Shows F behind
  behind_shows =
      let x₁ = own_shows l s 0 patch in
      let x₂ = others _ _ _ x₁ in
      let x₃ = others _ _ _ x₂ in
      let x₄ = others _ _ _ x₃ in
      (λ t. short_index (ltb-true words (words_for (strings_in s)) t))
      also (λ t. of_patch 0 7 (λ e. omega arith) (shown _ _ _ x₁ t))
      also (λ t. of_patch 0 8 (λ e. omega arith) (shown _ _ _ x₂ t))
      also (λ t. of_patch 0 11 (λ e. omega arith) (shown _ _ _ x₃ t))
      also (λ t. of_patch 0 12 (λ e. omega arith) (shown _ _ _ x₄ t))
      also nothing

  all_shows : Shows F (checks l s ++ behind)
  all_shows =
      shows_append F (checks l s) behind
      (shows_map _ F (checks l s) (λ n x. of_patch 0 n (image_number n x) (bad_image patch n x)) (faults.shows l s)) behind_shows

  -- ---- and a fault's check is met

  all_gives : (n : ℕ) → F n → given n (checks l s ++ behind) ≡ true
  all_gives n (short_index h) = given_last 13 (checks l s) behind (rw (lt-ltb words (words_for (strings_in s)) h))
  all_gives n (of_patch room k d x) =
      elim (given_or n (checks l s) (own_checks l s patch ++ room_check l s room patch) (own_gives l s room patch n x)) [
        | inl g ↦ given_first n (checks l s) behind g
        | inr g ↦ elim (given_or n (own_checks l s patch) (room_check l s room patch) g) [
          | inl h ↦ given_last n (checks l s) behind (rw (h, either_true))
          | inr h ↦ absurd (d (sym (eqb-true 13 n (both_0 (eqb 13 n) _ (last h)))))
        ]
      ]
    where
      last : {b : Bool} → either b false ≡ true → b ≡ true
      last {b = b} e = elim (either_or b false e) [ inl t ↦ t | inr t ↦ let z : ◌≡◌ {A = ℕ} 0 1 = cc in absurd (omega arith) ]

  rises : rising 1 (length of_reason) (in_turns of_reason (checks l s ++ behind)) ≡ true
  unfolding checks turn_in
  rises = refl

  in_order : InOrder of_reason F (checks l s ++ behind)
  in_order = record { rises = rises; shows = all_shows; gives = all_gives }

  -- refused with n exactly where fault n is there, and none that is due before it
  pub number_exactly : (n : ℕ) → 0 < n → reason_refusal m l s words id value ≡ n
      ↔ (F n × ((k : ℕ) → turn_in of_reason k < turn_in of_reason n → F k → ⊥))
  unfolding reason_refusal
  number_exactly = judged_in_order of_reason F (checks l s ++ behind) in_order

  pub fault_numbered : (n : ℕ) → F n → 0 < n
  fault_numbered = not-zero of_reason F (checks l s ++ behind) in_order

  -- not refused exactly where there is none
  pub fault_refused : (n : ℕ) → F n → 0 < reason_refusal m l s words id value
  unfolding reason_refusal
  fault_refused = some of_reason F (checks l s ++ behind) in_order

  pub no_fault : ((n : ℕ) → F n → ⊥) → reason_refusal m l s words id value ≡ 0
  unfolding reason_refusal
  no_fault f = elim (below_or 0 (judge (checks l s ++ behind))) [
    | inl h ↦ absurd (f (judge (checks l s ++ behind)) (judge_shows F (checks l s ++ behind) all_shows h))
    | inr h ↦ omega arith
  ]

  -- ---- the numbers of the patch

  image_numbered : numbered (checks l s) ≡ true
  unfolding checks
  image_numbered = refl

  -- where 13 is not given, the index does not count
  pub as_patch : reason_refusal m l s words id value ≢ 13 → reason_refusal m l s words id value ≡ by_id_refusal m l s id value
  unfolding reason_refusal by_id_refusal judge
  as_patch d =
      rw (judge_append (checks l s) (own_checks l s patch) image_numbered)
      (go (eqb (judge (checks l s)) 0) short refl (judge_append (checks l s) behind image_numbered))
    where
      go : (z b : Bool) → short ≡ b
          → judge (checks l s ++ behind) ≡ pick z (pick short 13 (judge (own_checks l s patch))) (judge (checks l s))
          → judge (checks l s ++ behind) ≡ pick z (judge (own_checks l s patch)) (judge (checks l s))
      go true true f e = absurd (d (e ∙ rw f))
      go true false f e = e ∙ rw f
      go false b f e = e
