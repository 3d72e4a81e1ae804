-- A function, as its record and its large header are read.
use mathlib.Core.Path.{◌≡◌, refl, sym, ◌∙◌, ap}
use mathlib.Core.Bool.{Bool, true, false}
use mathlib.Core.List.{List}
use Prim.Native.Nat.{ℕ, ◌+◌, ◌-◌, ◌≤◌, ◌<◌}
use native.Mathlib.Omega.{arith}
use lib.ListN.{length, take, drop, length-drop}
use lib.Seq.{length-take-le}
use Rattle.bits.specs.Bytes.{number, number_at}
use Rattle.bits.proofs.ByteLaws.{bytes_at-take, bytes_at_self}
use Rattle.format.specs.declared.Field.{Field}
use Rattle.format.specs.declared.Layout.{Layout}
use Rattle.format.specs.declared.Layout.TheVariants.{Modern, Legacy}
use Rattle.format.specs.Table as table
use Rattle.format.specs.Record.{value_of, is_large, pointer}
use Rattle.format.specs.Number.{number_from}
use Rattle.image.specs.Sections.{functions_in, record_at}
use Rattle.image.specs.Functions.{Func, small, header, record_in, func_of}
use Rattle.image.specs.Admission.{headers_in}
use Rattle.image.proofs.CheckLaws.{headers_in_lem}
use Rattle.sections.specs.Places.{Fits}
use Rattle.sections.proofs.SectionLaws.{records_fit, record_size}

-- ---- a record in its own part of the image

slot_number : (s : List ℕ) (at n : ℕ) → at + n ≤ length s → number_at (take n (drop at s)) 0 n ≡ number_at s at n
slot_number s at n h =
    let e : length (take n (drop at s)) ≡ n = length-take-le n (drop at s) (rw length-drop (omega arith)) in
    ap number (rw e at (bytes_at_self (take n (drop at s))) ∙ sym (bytes_at-take s n at h))

-- the place and the row of the record of function i, as code has them
pub record SlotRead (l : Layout) (s : List ℕ) (i at : ℕ) (f : Field) : Type 0 where
  pub place : at ≡ record_at l i
  pub row : f ≡ table.record_row l
  pub fits : Fits l s
  pub known : i < functions_in s

module _ {l : Layout} {s : List ℕ} {i at : ℕ} {f : Field} (z : SlotRead l s i at f) where
  slot_width : f.width ≡ (table.record_row l).width
  slot_width = ap (λ (x : Field). x.width) z.row

  slot_fits : record_at l i + (table.record_row l).width ≤ length s
  slot_fits = records_fit l s i z.fits z.known

  pub slot_ends : (at + f.width ≤ length s) × (f.width ≤ 16)
  slot_ends = (omega (arith, slot_fits, slot_width), omega (arith, record_size l, slot_width))

  slot_count : at + f.width - at ≡ (table.record_row l).width
  slot_count = omega (arith, slot_width)

  pub slot_long : (table.record_row l).width ≤ length (take (at + f.width - at) (drop at s))
  slot_long =
      rw (slot_count, length-take-le (table.record_row l).width (drop at s) (rw length-drop (omega (arith, slot_fits))))
      (omega arith)

  pub slot_record_lem : (n : ℕ) → n ≡ number_at (take (at + f.width - at) (drop at s)) 0 (table.record_row l).width
      → n ≡ record_in l s i
  unfolding record_in
  slot_record_lem n d = d ∙ rw (slot_count, z.place) (slot_number s (record_at l i) (table.record_row l).width slot_fits)

-- ---- by layout

-- start, size and info place, as the number of a legacy record has them
pub record LegacyFields (n a b c : ℕ) : Type 0 where
  pub begin : a ≡ value_of table.legacy_offset n
  pub size : b ≡ value_of table.legacy_size n
  pub info : c ≡ value_of table.legacy_info n

-- and as the words of a legacy large header at p have them
pub record LegacyWords (s : List ℕ) (p a b c : ℕ) : Type 0 where
  pub begin : a ≡ number_from p table.large_offset s
  pub size : b ≡ number_from p table.legacy_large_size s
  pub info : c ≡ number_from p table.legacy_large_info s

module _ (l : Layout) (n : ℕ) where
  pub pointer_modern : l ≡ Modern → (r : ℕ) → r ≡ pointer Modern n → r ≡ pointer l n
  pointer_modern e r h = rw e h

  pub pointer_legacy : (b c : Bool) → l ≡ Legacy b c → (r : ℕ) → r ≡ pointer (Legacy false false) n → r ≡ pointer l n
  unfolding pointer
  pointer_legacy b c e r h = rw e h

  pub small_modern : l ≡ Modern → (a b : ℕ) → a ≡ value_of table.modern_offset n → b ≡ value_of table.modern_size n
      → record { large = false; ptr = 0; begin = a; size = b; info = 0 } ≡ small l n
  unfolding small
  small_modern e a b h k = rw (e, h, k)

  pub small_legacy : (x y : Bool) → l ≡ Legacy x y → (a b c : ℕ) → LegacyFields n a b c
      → record { large = false; ptr = 0; begin = a; size = b; info = c } ≡ small l n
  unfolding small
  small_legacy x y e a b c h = rw (e, h.begin, h.size, h.info)

module _ (l : Layout) (s : List ℕ) (p : ℕ) where
  pub header_modern : l ≡ Modern → (a b : ℕ) → a ≡ number_from p table.large_offset s → b ≡ number_from p table.modern_large_size s
      → record { large = true; ptr = p; begin = a; size = b; info = 0 } ≡ header l p s
  unfolding header
  header_modern e a b h k = rw (e, h, k)

  pub header_legacy : (x y : Bool) → l ≡ Legacy x y → (a b c : ℕ) → LegacyWords s p a b c
      → record { large = true; ptr = p; begin = a; size = b; info = c } ≡ header l p s
  unfolding header
  header_legacy x y e a b c h = rw (e, h.begin, h.size, h.info)

-- ---- a function, by its record's number

header_large : (l : Layout) (p : ℕ) (s : List ℕ) → (header l p s).large ≡ true
unfolding header
header_large Modern p s = refl
header_large (Legacy big sources) p s = refl

header_ptr : (l : Layout) (p : ℕ) (s : List ℕ) → (header l p s).ptr ≡ p
unfolding header
header_ptr Modern p s = refl
header_ptr (Legacy big sources) p s = refl

small_large : (l : Layout) (n : ℕ) → (small l n).large ≡ false
unfolding small
small_large Modern n = refl
small_large (Legacy big sources) n = refl

-- n is the record of function i, which has no large header
pub record SmallRead (l : Layout) (s : List ℕ) (i n : ℕ) : Type 0 where
  pub number : n ≡ record_in l s i
  pub flag : is_large l n ≡ false

module _ {l : Layout} {s : List ℕ} {i n : ℕ} (z : SmallRead l s i n) where
  pub small_is : (f : Func) → f ≡ small l n → f ≡ func_of l s i
  unfolding func_of
  small_is f h = rw (← z.number, z.flag, h)

  pub is-small : (func_of l s i).large ≡ false
  is-small = ap (λ (f : Func). f.large) (sym (small_is (small l n) refl)) ∙ small_large l n

-- n is the record of function i, which has its large header at p
pub record LargeRead (l : Layout) (s : List ℕ) (i n p : ℕ) : Type 0 where
  pub number : n ≡ record_in l s i
  pub flag : is_large l n ≡ true
  pub place : p ≡ pointer l n

module _ {l : Layout} {s : List ℕ} {i n p : ℕ} (z : LargeRead l s i n p) where
  large_is : header l p s ≡ func_of l s i
  unfolding func_of
  large_is = rw (← z.number, z.flag, z.place)

  pub header_is : (f : Func) → f ≡ header l p s → f ≡ func_of l s i
  header_is f h = h ∙ large_is

  pub is_large_lem : (func_of l s i).large ≡ true
  is_large_lem = ap (λ (f : Func). f.large) (sym large_is) ∙ header_large l p s

  pub points_to : (func_of l s i).ptr ≡ p
  points_to = ap (λ (f : Func). f.ptr) (sym large_is) ∙ header_ptr l p s

  -- where every large header stands in the tail, this one may be read
  pub header-fits : headers_in l s ≡ true → i < functions_in s → p + (table.large_row l).width ≤ length s
  header-fits h k = omega (arith, (headers_in_lem l s).holds h i k is_large_lem, points_to)
