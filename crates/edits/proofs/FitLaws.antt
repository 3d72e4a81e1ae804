-- The test of refusal 12 and what it says.
use mathlib.Core.Path.{◌≡◌}
use mathlib.Core.Bool.{true, false, not}
use mathlib.Core.List.{List}
use Prim.Native.Nat.{ℕ, ◌^◌, ◌<◌}
use borrow.Author.Tests.{leb-false, not-true}
use Rattle.bits.specs.Choice.{both, either}
use Rattle.bits.proofs.TestLaws.{all_at, either_0, either_1}
use Rattle.format.specs.declared.Layout.{Layout}
use Rattle.format.specs.Table as table
use Rattle.image.specs.Sections.{functions_in}
use Rattle.image.specs.Functions.{Func, func_of}
use Rattle.edits.specs.Fit.{beyond, offset_row, is_beyond, fields_fit}

-- where it holds, every record without a large header holds its moved places
pub fields_use : (l : Layout) (s : List ℕ) (mv : ℕ → ℕ) → fields_fit l s mv ≡ true → (j : ℕ) → j < functions_in s
    → (func_of l s j).large ≡ false
    → (mv (func_of l s j).begin < 2 ^ (offset_row l).width) × (mv (func_of l s j).info < 2 ^ (table.legacy_info).width)
unfolding fields_fit
fields_use l s mv e j h t =
    let f : Func = func_of l s j in
    let a = beyond (offset_row l) (mv f.begin) in
    let b = beyond table.legacy_info (mv f.info) in
    let n : both (not f.large) (either a b) ≡ false
    = not-true (is_beyond l mv f) (all_at (λ i. not (is_beyond l mv (func_of l s i))) (functions_in s) j e h) in
    let m : either a b ≡ false = rw t at n in (
      leb-false (2 ^ (offset_row l).width) (mv f.begin) (either_0 a b m),
      leb-false (2 ^ (table.legacy_info).width) (mv f.info)
          (either_1 a b m),
    )
