-- Refusal 9: one function against a body, and all functions.
use mathlib.Core.Path.{◌≡◌, ◌∙◌, ap}
use mathlib.Core.Bool.{Bool, true, false, not}
use mathlib.Core.List.{List}
use Prim.Native.Nat.{ℕ, ◌<◌}
use lib.Dec.{eqb}
use Rattle.bits.specs.Choice.{both, implies, all_below}
use Rattle.bits.proofs.PassLaws.{all_both, pass_stop, pass_end}
use Rattle.format.specs.declared.Layout.{Layout}
use Rattle.image.specs.Sections.{functions_in}
use Rattle.image.specs.Functions.{Func, func_of}
use Rattle.function_checks.specs.Checks.{shares_with, body_alone, info_within, infos_outside}

-- ---- one function

abbrev pub alone_with : Func → Func → Bool → Bool
alone_with f g other = both (implies other (not (shares_with f g))) (not (info_within f g))

-- ---- all functions

module _ (l : Layout) (s : List ℕ) (id : ℕ) where
  abbrev pub alone_at : ℕ → Bool
  alone_at j = alone_with (func_of l s id) (func_of l s j) (not (eqb j id))

  pub alone_is : (f g : Func) (j : ℕ) (r : Bool) → f ≡ func_of l s id → g ≡ func_of l s j → r ≡ alone_with f g (not (eqb j id))
      → r ≡ alone_at j
  alone_is f g j r e h k =
      k ∙ ap (λ (x : Func). alone_with x g (not (eqb j id))) e ∙ ap (λ (x : Func). alone_with (func_of l s id) x (not (eqb j id))) h

  all_alone : all_below (functions_in s) alone_at ≡ both (body_alone l s id) (infos_outside l s id)
  unfolding body_alone infos_outside
  all_alone = all_both _ _ (functions_in s)

  pub alone_stop : (j : ℕ) (r : Bool) → j < functions_in s → r ≡ alone_at j → not r ≡ true
      → false ≡ both (body_alone l s id) (infos_outside l s id)
  alone_stop j r k e h = pass_stop alone_at (functions_in s) j r k e h ∙ all_alone

  pub alone_end : (j n : ℕ) → n ≡ functions_in s → j ≡ n → all_below j alone_at ≡ true
      → true ≡ both (body_alone l s id) (infos_outside l s id)
  alone_end j n c e h = pass_end alone_at (functions_in s) j (e ∙ c) h ∙ all_alone
