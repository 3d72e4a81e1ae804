-- The text of a string that was found is that string of the image: its units are there, and are 16 bits wide.
use mathlib.Core.Path.{◌≡◌, sym}
use mathlib.Core.Bool.{Bool, true, false}
use mathlib.Core.List.{List, [], ◌∷◌}
use Prim.Native.Nat.{ℕ, zero, suc, ◌+◌}
use native.Mathlib.Omega.{arith}
use Rattle.bits.specs.Bytes.{bytes_at}
use Rattle.bits.proofs.ListLaws.{AllBelow}
use Rattle.bits.proofs.ByteLaws.{bytes_at_below}
use Rattle.format.specs.declared.Layout.{Layout}
use Rattle.image.specs.Sections.{storage_at}
use Rattle.image.specs.Strings.{place_at, size_of, Str, string_of, pairs_of, units_of}
use Rattle.sections.specs.declared.Places.{Places}
use Rattle.sections.specs.Places.{Placed}
use Rattle.string_walk.specs.declared.StringRecord.{StringRecord}
use Rattle.string_walk.specs.Places.{Stands}
use Rattle.string_walk.proofs.RecordLaws.{record_inside}
use Rattle.string_find.proofs.FindLaws.{units_stand}
use Rattle.po_strings.specs.Texts.{text_of, Inside, units_in}

module _ (p : Places) (s : List ℕ) (h : Placed p s) (i : ℕ) (r : StringRecord) (g : Stands p s i r) where
  pub text_inside : Inside s (text_of r)
  text_inside = record_inside p s h i r g

  pub text_units : units_in s (text_of r) ≡ units_of (string_of p.layout s i)
  text_units = sym (units_stand p s h i r g)

-- ---- units are below 2^16, as bytes are below 2^8

pairs_below : (bs : List ℕ) → AllBelow 256 bs → AllBelow 0x10000 (pairs_of bs)
unfolding pairs_of
pairs_below [] h i = omega arith
pairs_below (a ∷ []) h i = omega arith
pairs_below (a ∷ b ∷ bs) h zero = omega (arith, h 0, h 1)
pairs_below (a ∷ b ∷ bs) h (suc i) = pairs_below bs (λ j. h (suc (suc j))) i

units_below : (t : Str) → AllBelow 256 t.bytes → AllBelow 0x10000 (units_of t)
unfolding units_of
units_below t h = go t.wide
  where
    go : (w : Bool) → AllBelow 0x10000 (units_of (record { wide = w; bytes = t.bytes }))
    go true i = pairs_below t.bytes h i
    go false i = omega (arith, h i)

pub string_below : (l : Layout) (s : List ℕ) (i : ℕ) → AllBelow 256 s → AllBelow 0x10000 (units_of (string_of l s i))
unfolding string_of
string_below l s i h =
    let q = place_at l s i in
    units_below (record { wide = q.wide; bytes = bytes_at s (storage_at l s + q.at) (size_of q) })
    (bytes_at_below s (size_of q) (storage_at l s + q.at) h)
