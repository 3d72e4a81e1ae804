-- The text that is kept of a written string is its value.
use mathlib.Core.Path.{◌≡◌, ap, sym, ◌∙◌, subst⁻¹}
use mathlib.Core.Bool.{true}
use mathlib.Core.List.{List}
use Prim.Native.Nat.{ℕ, ◌+◌, ◌≤◌, ◌<◌}
use lib.ListN.{length}
use Rattle.utf.specs.Utf16.{is_utf16, utf8_of}
use Rattle.po_text.specs.Written.{entry_of}
use Rattle.sections.specs.declared.Places.{Places}
use Rattle.po_strings.specs.declared.Text.{Text}
use Rattle.po_strings.specs.Texts.{Inside, units_in}
use Rattle.po_strings.proofs.PointLaws.{held_valid}
use Rattle.po_write.specs.Strings.{value_of, is_written}
use Rattle.po_write.specs.File.{file_at}
use Rattle.po_write.specs.Work.{shape_at, text_at, Kept, Filled}
use Rattle.po_write.proofs.FirstLaws.{written_held}
use Rattle.po_write.proofs.FileLaws.{pair_some}
use Rattle.po_write.proofs.WorkLaws.{told_on}

module _ (p : Places) (s w : List ℕ) (f : Filled p.layout s p.strings p.strings w) (j : ℕ) (h : j < p.strings)
    (some : shape_at w p.strings j ≡ 0 → ⊥) (t : Text) (e : t ≡ text_at w p.strings j) where
  on : is_written p.layout s j ≡ true
  on = told_on p.layout s p.strings w f j h some

  kept : Kept p.layout s w p.strings j
  kept = f.kept j h on

  units_are : units_in s t ≡ value_of p.layout s j
  units_are = ap (λ (x : Text). units_in s x) e ∙ kept.units

  pub kept_pair : file_at p.layout s j ≡ entry_of (utf8_of (units_in s t))
  kept_pair = pair_some p.layout s j on ∙ ap (λ (v : List ℕ). entry_of (utf8_of v)) (sym units_are)

  pub text_kept : (at room : ℕ) → at + length (file_at p.layout s j) ≤ room
      → ((Inside s t × (is_utf16 (units_in s t) ≡ true)) × (at + length (entry_of (utf8_of (units_in s t))) ≤ room))
  text_kept at room k = (
    (
      subst⁻¹ (λ (x : Text). Inside s x) e kept.inside,
      ap is_utf16 units_are ∙ (held_valid (value_of p.layout s j) (written_held p.layout s j on)).0,
    ),
    rw (← kept_pair) k,
  )
