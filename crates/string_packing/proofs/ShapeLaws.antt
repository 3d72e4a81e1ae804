-- A string as the code holds it: its width and its count of units.
use mathlib.Core.Path.{◌≡◌, refl, ap, sym, ◌∙◌, subst}
use mathlib.Core.Bool.{Bool, true, false}
use mathlib.Core.List.{List, [], ◌∷◌}
use Prim.Native.Nat.{ℕ, ◌+◌, ◌*◌, ◌/◌, ◌%◌, ◌≤◌, ◌<◌}
use native.Mathlib.Numerals.{add-one}
use native.Mathlib.Omega.{arith}
use borrow.Author.Tests.{le-leb, lt-leb}
use lib.Dec.{leb}
use lib.ListN.{length, length-append}
use Rattle.bits.specs.Choice.{pick}
use Rattle.bits.specs.Bytes.{ascii, bytes_of}
use Rattle.bits.proofs.ByteLaws.{length-bytes_of, length-bytes_at}
use Rattle.format.specs.declared.Layout.{Layout}
use Rattle.format.specs.declared.Mode.{Mode}
use Rattle.format.specs.declared.Mode.TheVariants.{Even}
use Rattle.format.specs.Table.{if_set}
use Rattle.format.specs.Entry.{Place, bit, is_over}
use Rattle.utf.specs.Utf8.{utf16, unit_bytes}
use Rattle.utf.proofs.LengthLaws.{units_most}
use Rattle.image.specs.Sections.{storage_at}
use Rattle.image.specs.Strings.{Str, unit_size, size_of, place_at, string_of}
use Rattle.edits.specs.Packing.{count_of, gap_of, standing, placed, store_of}
use Rattle.edits.proofs.TableLaws.{overs-none, overs_next}
use Rattle.edits.proofs.PackLaws.{size_next, start_is, store_none}
use Rattle.string_packing.specs.declared.Shape.{Shape}
use Rattle.string_packing.specs.Strings.{as_string, Shaped, place_with, Held, Sums}

-- ---- a value

pub length_units : (us : List ℕ) → length (unit_bytes us) ≡ length us * 2
unfolding unit_bytes
length_units [] = refl
length_units (u ∷ us) = length-append (bytes_of 2 u) (unit_bytes us) ∙ rw (length-bytes_of 2 u, length_units us) (omega arith)

module _ (value : List ℕ) (r : Bool) (e : r ≡ ascii value) where
  pub narrow_value : r ≡ true → Shaped (record { wide = false; count = length value }) (as_string value)
  unfolding as_string
  narrow_value t = rw (← e, t) (refl, omega arith)

  pub wide_value : r ≡ false → (n : ℕ) → n ≡ length (utf16 value) → Shaped (record { wide = true; count = n }) (as_string value)
  unfolding as_string
  wide_value t n c = rw (← e, t, c) (refl, length_units (utf16 value))

-- ---- overflow, by the offset or by the length

pub over_far : (p : Place) → 0x800000 ≤ p.at → true ≡ is_over p
over_far p h = rw (le-leb 0x800000 p.at h)

pub over_near : (p : Place) → p.at < 0x800000 → leb 255 p.count ≡ is_over p
over_near p h = rw (lt-leb 0x800000 p.at h)

-- ---- a string of a shape

count-units : (b : Bool) (c : ℕ) → c * unit_size b / unit_size b ≡ c
count-units true c = omega arith
count-units false c = omega arith

pub shaped_count : (x : Shape) (t : Str) → Shaped x t → count_of t ≡ x.count
shaped_count x t h =
    ap (λ (b : Bool). length t.bytes / unit_size b) h.0
    ∙ ap (λ (n : ℕ). n / unit_size x.wide) h.1
    ∙ count-units x.wide x.count

-- a value has no more units than bytes
pub value_count : (value : List ℕ) → count_of (as_string value) ≤ length value
unfolding as_string
value_count value = go (ascii value)
  where
    go : (b : Bool) → count_of (pick b (record { wide = false; bytes = value }) (record { wide = true; bytes = unit_bytes (utf16 value) }))
        ≤ length value
    go true = omega arith
    go false = rw (length_units (utf16 value)) (omega (arith, units_most value))

-- a string of the image has the shape of its place
old_shaped : (l : Layout) (s : List ℕ) (i : ℕ)
    → Shaped (record { wide = (place_at l s i).wide; count = (place_at l s i).count }) (string_of l s i)
unfolding string_of
old_shaped l s i = (refl, length-bytes_at s (storage_at l s + (place_at l s i).at) (size_of (place_at l s i)))

module _ (m : Mode) (l : Layout) (s : List ℕ) (f : ℕ → Str) (i at : ℕ) (new : Bool) (x : Shape) (h : Held l s f i new x) where
  -- the shape that the code has of string i
  abbrev had : Shape
  had = record { wide = pick new x.wide (place_at l s i).wide; count = pick new x.count (place_at l s i).count }

  had_shaped : Shaped had (f i)
  had_shaped = go new h.0 h.1
    where
      go : (b : Bool) → (b ≡ true → Shaped x (f i)) → (b ≡ false → f i ≡ string_of l s i)
          → Shaped (record { wide = pick b x.wide (place_at l s i).wide; count = pick b x.count (place_at l s i).count }) (f i)
      go true u v = u refl
      go false u v =
          subst (λ (t : Str). Shaped (record { wide = (place_at l s i).wide; count = (place_at l s i).count }) t) (sym (v refl))
          (old_shaped l s i)

  -- the place that the code gives it is that of its packing
  pub place_is : (p : Place) → p ≡ place_at l s i → place_with m new x p at ≡ standing (at + gap_of m (f i).wide at) (f i)
  place_is p e =
      ap (λ (q : Place). place_with m new x q at) e
      ∙ (λ j. record {
        wide = sym had_shaped.0 j;
        at = at + gap_of m (sym had_shaped.0 j) at;
        count = sym (shaped_count had (f i) had_shaped) j;
      })

  -- and has its bytes
  pub size_is : (p : Place) → p ≡ place_at l s i → size_of (place_with m new x p at) ≡ length (f i).bytes
  size_is p e = ap (λ (q : Place). size_of (place_with m new x q at)) e ∙ sym had_shaped.1

-- ---- the gap, and the place behind it, as the code makes them

pub gap_even : (m : Mode) (w : Bool) (at r : ℕ) → m ≡ Even → r ≡ if_set w (at % 2) → (r ≡ gap_of m w at) × (r ≤ 1)
gap_even m w at r e f = (rw (e, f) (go w), rw f (most w))
  where
    go : (b : Bool) → if_set b (at % 2) ≡ pick b (at % 2) 0
    go true = refl
    go false = refl

    most : (b : Bool) → if_set b (at % 2) ≤ 1
    most true = omega arith
    most false = omega arith

module _ (m : Mode) (new : Bool) (x : Shape) (p : Place) (at g : ℕ) where
  pub place_new : new ≡ true → g ≡ gap_of m x.wide at
      → record { wide = x.wide; at = at + g; count = x.count } ≡ place_with m new x p at
  place_new t e = rw (t, e)

  pub place_old : new ≡ false → g ≡ gap_of m p.wide at
      → record { wide = p.wide; at = at + g; count = p.count } ≡ place_with m new x p at
  place_old t e = rw (t, e)

-- string i stands behind those before it, that take `at` bytes, and its gap
pub place_next : (m : Mode) (f : ℕ → Str) (i at : ℕ) → at ≡ length (store_of m f i)
    → standing (at + gap_of m (f i).wide at) (f i) ≡ placed m f i
place_next m f i at e =
    ap (λ (a : ℕ). standing a (f i)) (ap (λ (a : ℕ). a + gap_of m (f i).wide a) e ∙ sym (start_is m f i))

-- ---- the sums

pub sums_none : (m : Mode) (f : ℕ → Str) → Sums m f 0 0 0
sums_none m f = (rw (store_none m f), sym (overs-none (placed m f)))

-- one string more, that stands at a place with a size
pub sums_more : (m : Mode) (f : ℕ → Str) (i storage overflows : ℕ) → Sums m f i storage overflows
    → Sums m f (i + 1) (storage + gap_of m (f i).wide storage + length (f i).bytes)
    (overflows + bit (is_over (standing (storage + gap_of m (f i).wide storage) (f i))))
sums_more m f i storage overflows g =
    let r : standing (storage + gap_of m (f i).wide storage) (f i) ≡ placed m f i = place_next m f i storage g.0 in
    let a : storage + gap_of m (f i).wide storage ≡ (placed m f i).at = ap (λ (y : Place). y.at) r in
    let o : bit (is_over (standing (storage + gap_of m (f i).wide storage) (f i))) ≡ bit (is_over (placed m f i))
    = ap (λ (y : Place). bit (is_over y)) r in (
      rw (add-one, size_next m f i) (omega (arith, a)),
      rw (add-one, overs_next (placed m f) i, ← g.1, ← o),
    )

-- the next one, at a place that the code found
pub sums_next : (m : Mode) (l : Layout) (s : List ℕ) (f : ℕ → Str) (i storage overflows : ℕ) (new : Bool) (x : Shape) (p q : Place)
    → Sums m f i storage overflows → Held l s f i new x → p ≡ place_at l s i → q ≡ place_with m new x p storage
    → Sums m f (i + 1) (q.at + size_of q) (overflows + bit (is_over q))
sums_next m l s f i storage overflows new x p q g h pe qe =
    let r : q ≡ standing (storage + gap_of m (f i).wide storage) (f i) = qe ∙ place_is m l s f i storage new x h p pe in
    let e : size_of q ≡ length (f i).bytes = ap size_of qe ∙ size_is m l s f i storage new x h p pe in
    let a : q.at ≡ storage + gap_of m (f i).wide storage = ap (λ (y : Place). y.at) r in
    let o : bit (is_over q) ≡ bit (is_over (standing (storage + gap_of m (f i).wide storage) (f i)))
    = ap (λ (y : Place). bit (is_over y)) r in
    let more = sums_more m f i storage overflows g in
    (omega (arith, e, a, more.0), omega (arith, o, more.1))
