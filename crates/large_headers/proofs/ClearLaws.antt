-- Each large header against every function.
use mathlib.Core.Path.{◌≡◌, refl, ◌∙◌}
use mathlib.Core.Bool.{Bool, true, false, not}
use mathlib.Core.List.{List}
use Prim.Native.Nat.{ℕ, ◌<◌}
use lib.Dec.{ltb, eqb}
use borrow.Author.Tests.{not-true, not-false}
use Rattle.bits.specs.Choice.{both, implies, all_below}
use Rattle.bits.proofs.PassLaws.{all_both, all_same, all_swap, imp_all, pass_stop, pass_end}
use Rattle.format.specs.declared.Layout.{Layout}
use Rattle.format.specs.Table as table
use Rattle.image.specs.Sections.{functions_in}
use Rattle.image.specs.Functions.{Func, func_of}
use Rattle.image.specs.Admission.{headers_apart2, body_apart, headers_apart, bodies_apart}
use Rattle.large_headers.specs.Clear.{clear_of, clear_at, header_clear, all_apart}

-- ---- a header against all functions

module _ (l : Layout) (s : List ℕ) (j : ℕ) (g : Func) (e : g ≡ func_of l s j) where
  pub no_header : not g.large ≡ true → true ≡ header_clear l s j
  unfolding header_clear
  no_header t = rw (← e, not-true g.large t)

-- g is function j of n, and has a large header
pub record WithHeader (l : Layout) (s : List ℕ) (j n : ℕ) (g : Func) : Type 0 where
  pub is : g ≡ func_of l s j
  pub large : not g.large ≡ false
  pub count : n ≡ functions_in s

module _ {l : Layout} {s : List ℕ} {j n : ℕ} {g : Func} (z : WithHeader l s j n g) where
  has_header : all_below n (clear_at l s j) ≡ header_clear l s j
  unfolding header_clear
  has_header = rw (← z.is, not-false g.large z.large, z.count)

  pub header_clear_lem : (i : ℕ) → i ≡ n → all_below i (clear_at l s j) ≡ true → true ≡ header_clear l s j
  header_clear_lem i k a = pass_end (clear_at l s j) n i k a ∙ has_header

-- f is function i, and r says whether the header of g is clear of it
pub record ClearTurn (l : Layout) (s : List ℕ) (j n i w : ℕ) (g f : Func) (other r : Bool) : Type 0 where
  pub headed : WithHeader l s j n g
  pub width : w ≡ (table.large_row l).width
  pub is : f ≡ func_of l s i
  pub two : other ≡ not (eqb i j)
  pub test : r ≡ clear_of w other g f

module _ {l : Layout} {s : List ℕ} {j n i w : ℕ} {g f : Func} {other r : Bool} (z : ClearTurn l s j n i w g f other r) where
  pub clear_at_lem : r ≡ clear_at l s j i
  unfolding clear_at
  clear_at_lem = rw (← z.width, ← z.headed.is, ← z.is, ← z.two, z.test)

  pub header-not_clear : i < n → not r ≡ true → false ≡ header_clear l s j
  header-not_clear k h = pass_stop (clear_at l s j) n i r k clear_at_lem h ∙ has_header z.headed

-- ---- all headers: the two tests of the definitions

spread : (b o f a z c : Bool)
    → implies b (both (implies o (implies f a)) (implies z c)) ≡ both (implies o (implies f (implies b a))) (implies z (implies b c))
spread true o f a z c = refl
spread false true true a true c = refl
spread false true true a false c = refl
spread false true false a true c = refl
spread false true false a false c = refl
spread false false f a true c = refl
spread false false f a false c = refl

module _ (l : Layout) (s : List ℕ) where
  abbrev headers : ℕ → ℕ → Bool
  headers i j = implies (not (eqb i j)) (headers_apart2 (table.large_row l).width (func_of l s i) (func_of l s j))

  abbrev bodies : ℕ → ℕ → Bool
  bodies i j = body_apart (table.large_row l).width (func_of l s i) (func_of l s j)

  clear_is : (j : ℕ) → header_clear l s j ≡ both (all_below (functions_in s) (λ i. headers i j))
      (all_below (functions_in s) (λ i. bodies i j))
  unfolding header_clear clear_at
  clear_is j =
      imp_all (func_of l s j).large (clear_at l s j) (functions_in s)
      ∙ all_same _ (λ i. both (headers i j) (bodies i j)) (functions_in s)
      (λ i h. spread (func_of l s j).large (not (eqb i j)) (func_of l s i).large _ (ltb 0 (func_of l s i).size) _)
      ∙ all_both (λ i. headers i j) (λ i. bodies i j) (functions_in s)

  pub all_clear : all_below (functions_in s) (header_clear l s) ≡ all_apart l s
  unfolding all_apart headers_apart bodies_apart
  all_clear =
      all_same (header_clear l s) _ (functions_in s) (λ j h. clear_is j)
      ∙ all_both (λ j. all_below (functions_in s) (λ i. headers i j)) (λ j. all_below (functions_in s) (λ i. bodies i j)) (functions_in s)
      ∙ rw (all_swap headers (functions_in s) (functions_in s), all_swap bodies (functions_in s) (functions_in s))

  pub not_all_clear : (j : ℕ) (r : Bool) → j < functions_in s → r ≡ header_clear l s j → not r ≡ true → false ≡ all_apart l s
  not_all_clear j r k e h = pass_stop (header_clear l s) (functions_in s) j r k e h ∙ all_clear

  pub clear_end : (j n : ℕ) → n ≡ functions_in s → j ≡ n → all_below j (header_clear l s) ≡ true → true ≡ all_apart l s
  clear_end j n c e h = pass_end (header_clear l s) (functions_in s) j (e ∙ c) h ∙ all_clear
