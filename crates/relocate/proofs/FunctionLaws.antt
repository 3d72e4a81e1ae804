-- A function after the patch: its record and its large header.
use mathlib.Core.Path.{◌≡◌, ap, sym, ◌∙◌}
use mathlib.Core.Bool.{Bool, true, false}
use mathlib.Core.List.{List}
use Prim.Native.Nat.{ℕ, ◌+◌, ◌-◌, ◌≤◌}
use native.Mathlib.Nat.{add-zero}
use native.Mathlib.Omega.{arith}
use borrow.Author.Tests.{eq-eqb, ne_eqb}
use borrow.Rule.Slice.PartMut.{put_mid}
use lib.ListN.{length, take, drop, length-drop}
use lib.Seq.{sets, length-take-le}
use Rattle.bits.specs.Bytes.{bytes_of}
use Rattle.bits.proofs.ByteLaws.{length-bytes_of}
use Rattle.bits.proofs.WriteLaws.{part_sets}
use Rattle.format.specs.declared.Field.{Field}
use Rattle.format.specs.declared.Layout.{Layout}
use Rattle.format.specs.declared.Layout.TheVariants.{Modern, Legacy}
use Rattle.format.specs.Table as table
use Rattle.format.specs.Number.{bytes_for}
use Rattle.format.specs.Record.{with_value, pointer, put_pointer}
use Rattle.image.specs.Sections.{record_at}
use Rattle.image.specs.Functions.{Func}
use Rattle.edits.specs.Edit.{write_all, put_small, pointed, put_header}
use Rattle.sections.proofs.SectionLaws.{record_size}

-- ---- its record

-- the three fields of a legacy record, put one after the other
pub record LegacyPut (f : Func) (n a b c : ℕ) : Type 0 where
  pub begin : a ≡ with_value table.legacy_offset f.begin n
  pub size : b ≡ with_value table.legacy_size f.size a
  pub info : c ≡ with_value table.legacy_info f.info b

-- the old pointer of a record, which is not p
pub record PointsElsewhere (l : Layout) (p n old : ℕ) : Type 0 where
  pub read : old ≡ pointer l n
  pub other : p ≡ old → ⊥

module _ (l : Layout) (f : Func) (n : ℕ) where
  pub small_modern : l ≡ Modern → (a b : ℕ) → a ≡ with_value table.modern_offset f.begin n
      → b ≡ with_value table.modern_size f.size a → b ≡ put_small l f n
  unfolding put_small
  small_modern e a b h k = rw (e, ← h) k

  pub small_legacy : (x y : Bool) → l ≡ Legacy x y → (a b c : ℕ) → LegacyPut f n a b c → c ≡ put_small l f n
  unfolding put_small
  small_legacy x y e a b c put = rw (e, ← put.begin, ← put.size) put.info

module _ (l : Layout) (p n : ℕ) where
  pub pointer_modern : l ≡ Modern → (r : ℕ) → r ≡ put_pointer Modern p n → r ≡ put_pointer l p n
  pointer_modern e r h = rw e h

  pub pointer_legacy : (x y : Bool) → l ≡ Legacy x y → (r : ℕ) → r ≡ put_pointer (Legacy false false) p n
      → r ≡ put_pointer l p n
  unfolding put_pointer
  pointer_legacy x y e r h = rw e h

  module _ (all : Bool) where
    pub pointed_all : all ≡ true → (r : ℕ) → r ≡ put_pointer l p n → r ≡ pointed l all p n
    unfolding pointed
    pointed_all h r e = rw h e

    pub pointed_kept : all ≡ false → (old : ℕ) → old ≡ pointer l n → p ≡ old → n ≡ pointed l all p n
    unfolding pointed
    pointed_kept h old e k = rw (h, eq-eqb p (pointer l n) (k ∙ e))

    pub pointed-moved : all ≡ false → (old : ℕ) → PointsElsewhere l p n old → (r : ℕ) → r ≡ put_pointer l p n
        → r ≡ pointed l all p n
    unfolding pointed
    pointed-moved h old el r g = rw (h, ne_eqb p (pointer l n) (λ q. el.other (q ∙ sym el.read))) g

-- record i has room at its place
pub record SlotRoomy (l : Layout) (o : List ℕ) (i at : ℕ) (f : Field) : Type 0 where
  pub place : at ≡ record_at l i
  pub row : f ≡ table.record_row l
  pub fits : record_at l i + (table.record_row l).width ≤ length o

-- a record in its own part of the image
module _ (l : Layout) (o : List ℕ) (i at n : ℕ) (f : Field) (ok : SlotRoomy l o i at f) where
  slot_width : f.width ≡ (table.record_row l).width
  slot_width = ap (λ (x : Field). x.width) ok.row

  pub slot_ends : (at + f.width ≤ length o) × (f.width ≤ 16)
  slot_ends = (omega (arith, ok.place, ok.fits, slot_width), omega (arith, record_size l, slot_width))

  slot_count : at + f.width - at ≡ (table.record_row l).width
  slot_count = omega (arith, slot_width)

  pub slot_long : (table.record_row l).width ≤ length (take (at + f.width - at) (drop at o))
  slot_long =
      rw (slot_count, length-take-le (table.record_row l).width (drop at o) (rw length-drop (omega (arith, ok.place, ok.fits))))
      (omega arith)

  pub slot_put : (new : List ℕ) → new ≡ sets (take (at + f.width - at) (drop at o)) 0 (bytes_of (table.record_row l).width n)
      → put_mid at (at + f.width - at) o new ≡ sets o (record_at l i) (bytes_of (table.record_row l).width n)
  slot_put new k =
      rw (k, slot_count, ok.place)
      (part_sets o (bytes_of (table.record_row l).width n) (record_at l i) (table.record_row l).width 0 ok.fits
      (omega (arith, length-bytes_of (table.record_row l).width n))
      ∙ rw add-zero)

-- ---- its large header

pub header_least : (l : Layout) → 16 ≤ (table.large_row l).width
header_least Modern = omega arith
header_least (Legacy x y) = omega arith

-- the words of a modern one, put one after the other
pub record ModernWords (f : Func) (o o1 o2 : List ℕ) : Type 0 where
  pub begin : o1 ≡ sets o (f.ptr + (table.large_offset).at) (bytes_for table.large_offset f.begin)
  pub size : o2 ≡ sets o1 (f.ptr + (table.modern_large_size).at) (bytes_for table.modern_large_size f.size)

-- those of a legacy one
pub record LegacyWordsPut (f : Func) (o o1 o2 o3 : List ℕ) : Type 0 where
  pub begin : o1 ≡ sets o (f.ptr + (table.large_offset).at) (bytes_for table.large_offset f.begin)
  pub size : o2 ≡ sets o1 (f.ptr + (table.legacy_large_size).at) (bytes_for table.legacy_large_size f.size)
  pub info : o3 ≡ sets o2 (f.ptr + (table.legacy_large_info).at) (bytes_for table.legacy_large_info f.info)

module _ (l : Layout) (f : Func) (o o1 o2 : List ℕ) where
  pub header_modern : l ≡ Modern → ModernWords f o o1 o2 → o2 ≡ write_all (put_header l f) o
  unfolding put_header write_all
  header_modern e put = rw (e, ← put.begin) put.size

  pub header_legacy : (x y : Bool) → l ≡ Legacy x y → (o3 : List ℕ) → LegacyWordsPut f o o1 o2 o3
      → o3 ≡ write_all (put_header l f) o
  unfolding put_header write_all
  header_legacy x y e o3 put = rw (e, ← put.begin, ← put.size) put.info
