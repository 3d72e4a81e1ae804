-- Refusal 12, record by record.
use mathlib.Core.Path.{◌≡◌, ap, ◌∙◌}
use mathlib.Core.Bool.{Bool, true, false, not}
use mathlib.Core.List.{List}
use Prim.Native.Nat.{ℕ, ◌<◌, ◌≤◌}
use borrow.Author.Tests.{ltb-true, leb-true}
use lib.Dec.{ltb, leb}
use Rattle.bits.specs.Choice.{both, either, all_below}
use Rattle.bits.proofs.TestLaws.{both_0, both_1}
use Rattle.bits.proofs.PassLaws.{pass_stop, pass_end}
use Rattle.format.specs.declared.Field.{Field}
use Rattle.format.specs.declared.Layout.{Layout}
use Rattle.format.specs.Table as table
use Rattle.records.specs.Records.{is_record_row}
use Rattle.image.specs.Sections.{functions_in}
use Rattle.image.specs.Functions.{Func, func_of}
use Rattle.edits.specs.Fit.{beyond, offset_row, is_beyond, fields_fit}

-- a field of a record is one of the table's rows, and has at most 32 bits
pub field_row : (k : ℕ) → is_record_row k ≡ true → (k < table.row_count) × ((table.row_of k).width ≤ 32)
field_row k h = (
  ltb-true k table.row_count (both_0 (ltb k table.row_count) _ h),
  leb-true (table.row_of k).width 32
      (both_0 (leb (table.row_of k).width 32) _ (both_1 (ltb k table.row_count) _ h)),
)

-- ---- all functions

module _ (l : Layout) (s : List ℕ) (mv : ℕ → ℕ) where
  abbrev pub fits_at : ℕ → Bool
  fits_at i = not (is_beyond l mv (func_of l s i))

  -- the test that code makes is the definition's
  pub fit_is : (i k : ℕ) (f : Func) (r : Bool) → table.row_of k ≡ offset_row l → f ≡ func_of l s i
      → r ≡ not (both (not f.large) (either (beyond (table.row_of k) (mv f.begin)) (beyond table.legacy_info (mv f.info))))
      → r ≡ fits_at i
  fit_is i k f r e h g =
      g ∙ ap (λ (x : Field). not (both (not f.large) (either (beyond x (mv f.begin)) (beyond table.legacy_info (mv f.info))))) e
      ∙ ap (λ (x : Func). not (is_beyond l mv x)) h

  pub fields_stop : (i : ℕ) (r : Bool) → i < functions_in s → r ≡ fits_at i → not r ≡ true → false ≡ fields_fit l s mv
  unfolding fields_fit
  fields_stop i r k e h = pass_stop fits_at (functions_in s) i r k e h

  pub fields_end : (i n : ℕ) → n ≡ functions_in s → i ≡ n → all_below i fits_at ≡ true → true ≡ fields_fit l s mv
  unfolding fields_fit
  fields_end i n c e h = pass_end fits_at (functions_in s) i (e ∙ c) h
