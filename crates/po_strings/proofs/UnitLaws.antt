-- Units one by one, where they stand: what is left behind each.
use mathlib.Core.Path.{◌≡◌}
use mathlib.Core.Bool.{Bool, true, false}
use mathlib.Core.List.{List, [], ◌∷◌}
use Prim.Native.Nat.{ℕ, suc, ◌+◌, ◌-◌, ◌*◌, ◌≤◌, ◌<◌}
use native.Mathlib.Numerals.{add-one}
use native.Mathlib.Omega.{arith}
use borrow.Author.Tests.{eq-eqb, ne_eqb}
use lib.Dec.{eqb}
use lib.ListN.{length}
use Rattle.bits.specs.Choice.{both}
use Rattle.footer.specs.Footer.{same}
use Rattle.image.specs.Strings.{unit_size}
use Rattle.string_walk.specs.Units.{unit_at}
use Rattle.string_find.specs.Find.{units_at}
use Rattle.po_strings.specs.declared.Text.{Text}
use Rattle.po_strings.specs.Texts.{Inside, units_in, units_left}

module _ (s : List ℕ) (t : Text) where
  pub left_all : units_left s t 0 ≡ units_in s t
  left_all = let e : t.count - 0 ≡ t.count = omega arith in rw e

  pub left_next : (i : ℕ) → i < t.count → units_left s t i ≡ unit_at s t.start t.wide i ∷ units_left s t (i + 1)
  unfolding units_at
  left_next i h = let e : t.count - i ≡ suc (t.count - (i + 1)) = omega arith in rw (e, add-one)

  pub left_end : (i : ℕ) → t.count ≤ i → units_left s t i ≡ []
  unfolding units_at
  left_end i h = let e : t.count - i ≡ 0 = omega arith in rw e

  -- a unit lies in the image
  pub unit_inside : (i : ℕ) → Inside s t → i < t.count → t.start + i * unit_size t.wide + unit_size t.wide ≤ length s
  unit_inside i = go t.wide
    where
      go : (w : Bool) → t.start + t.count * unit_size w ≤ length s → i < t.count
          → t.start + i * unit_size w + unit_size w ≤ length s
      go true h k = omega arith
      go false h k = omega arith

-- ---- compared

module _ (s : List ℕ) (a b : Text) where
  pub same_start : same (units_left s a 0) (units_left s b 0) ≡ same (units_in s a) (units_in s b)
  same_start = rw (left_all s a, left_all s b)

  module _ (i : ℕ) (k : i < a.count) (l : i < b.count) (z : Bool) (e : same (units_left s a i) (units_left s b i) ≡ z) where
    parted : both (eqb (unit_at s a.start a.wide i) (unit_at s b.start b.wide i))
        (same (units_left s a (i + 1)) (units_left s b (i + 1))) ≡ z
    unfolding same
    parted = rw (left_next s a i k, left_next s b i l) at e

    pub differ : (unit_at s a.start a.wide i ≡ unit_at s b.start b.wide i → ⊥) → false ≡ z
    differ h = rw (ne_eqb _ _ h) at parted

    pub agree : unit_at s a.start a.wide i ≡ unit_at s b.start b.wide i
        → same (units_left s a (i + 1)) (units_left s b (i + 1)) ≡ z
    agree h = rw (eq-eqb _ _ h) at parted

  pub same_end : (i : ℕ) (z : Bool) → a.count ≤ i → b.count ≤ i → same (units_left s a i) (units_left s b i) ≡ z
      → true ≡ z
  unfolding same
  same_end i z k l e = rw (left_end s a i k, left_end s b i l) at e
