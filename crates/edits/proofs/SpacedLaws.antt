-- What an image is whose strings stand as a mode packs them: at most one byte between neighbours and none before a narrow string; in
-- plain mode none at all; in even mode each wide string at an even offset.
use mathlib.Core.Path.{◌≡◌, refl, ◌∙◌}
use mathlib.Core.Bool.{Bool, true, false}
use mathlib.Core.List.{List}
use Prim.Native.Nat.{ℕ, zero, suc, ◌+◌, ◌≤◌, ◌<◌}
use native.Mathlib.Omega.{arith}
use Rattle.format.specs.declared.Layout.{Layout}
use Rattle.format.specs.declared.Mode.{Mode}
use Rattle.format.specs.declared.Mode.TheVariants.{Plain, Even}
use Rattle.image.specs.Sections.{strings_in}
use Rattle.image.specs.Strings.{place_at}
use Rattle.edits.specs.Packing.{gap_of, NoneOddIn, start_in, end_in, Spaced}

pub gap_most : (m : Mode) (w : Bool) (at : ℕ) → gap_of m w at ≤ 1
gap_most Plain w at = omega arith
gap_most Even true at = omega arith
gap_most Even false at = omega arith

gap_narrow : (m : Mode) (at : ℕ) → gap_of m false at ≡ 0
gap_narrow Plain at = refl
gap_narrow Even at = refl

module _ (l : Layout) (s : List ℕ) where
  -- ---- in each mode

  -- "one zero byte before it": one byte at most between neighbours
  pub spaced_near : (m : Mode) → Spaced m l s → (i : ℕ) → suc i < strings_in s
      → (end_in l s i ≤ start_in l s (suc i)) × (start_in l s (suc i) ≤ end_in l s i + 1)
  spaced_near m sp i h =
      let e = sp.next i h in
      let g = gap_most m (place_at l s (suc i)).wide (end_in l s i) in
      (omega arith, omega arith)

  -- none before a narrow string
  pub spaced_narrow : (m : Mode) → Spaced m l s → (i : ℕ) → suc i < strings_in s → (place_at l s (suc i)).wide ≡ false
      → start_in l s (suc i) ≡ end_in l s i
  spaced_narrow m sp i h w = sp.next i h ∙ rw (w, gap_narrow m (end_in l s i)) (omega arith)

  -- ---- in one mode

  -- "no gaps"
  pub spaced_plain : Spaced Plain l s → (i : ℕ) → suc i < strings_in s → start_in l s (suc i) ≡ end_in l s i
  spaced_plain sp i h = sp.next i h ∙ omega arith

  -- "a wide string starts at an even storage offset"
  pub spaced_even : Spaced Even l s → NoneOddIn l s
  spaced_even sp zero h w = rw (sp.first h) (omega arith)
  spaced_even sp (suc i) h w = rw (sp.next i h, w) (omega arith)
