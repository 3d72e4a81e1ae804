-- A function record: the function that is put into it is read back, and its flag stays.
use mathlib.Core.Path.{◌≡◌, refl, sym, ◌∙◌}
use mathlib.Core.Bool.{Bool, true, false, not}
use mathlib.Core.List.{List}
use Prim.Native.Nat.{ℕ, ◌^◌, ◌<◌}
use native.Mathlib.Nat.{mod-eq_of_lt}
use native.Mathlib.Omega.{arith}
use borrow.Author.Tests.{eqb-true}
use lib.Dec.{eqb}
use Rattle.bits.specs.Choice.{pick, either}
use Rattle.bits.proofs.FieldLaws.{with_lt}
use Rattle.format.specs.declared.Layout.{Layout}
use Rattle.format.specs.declared.Layout.TheVariants.{Modern, Legacy}
use Rattle.format.specs.Table as table
use Rattle.format.specs.Record.{with_value, is_large, pointer, put_pointer}
use Rattle.format.proofs.RecordLaws.{value_kept, value-put, value-lt, pointer-flag, pointer_back, pointer-lt}
use Rattle.image.specs.Functions.{Func, small, header, record_in, func_of}
use Rattle.edits.specs.Edit.{put_small, pointed, put_record}
use Rattle.edits.specs.Fit.{FitsFields}

-- two functions that are alike in every part
pub record Alike (f g : Func) : Type 0 where
  pub large : f.large ≡ g.large
  pub ptr : f.ptr ≡ g.ptr
  pub begin : f.begin ≡ g.begin
  pub size : f.size ≡ g.size
  pub info : f.info ≡ g.info

pub func_eq : (f g : Func) → Alike f g → f ≡ g
func_eq f g a = λ i. record { large = a.large i; ptr = a.ptr i; begin = a.begin i; size = a.size i; info = a.info i }

-- ---- a record without a large header

-- what it can hold: a modern one no info place
pub record SmallFits (l : Layout) (f : Func) : Type 0 where
  pub large : f.large ≡ false
  pub ptr : f.ptr ≡ 0
  pub fields : FitsFields l f
  pub modern : l ≡ Modern → f.info ≡ 0

small-flag : (l : Layout) (f : Func) (n : ℕ) → is_large l (put_small l f n) ≡ is_large l n
unfolding is_large put_small
small-flag Modern f n =
    let m : ℕ = with_value table.modern_offset f.begin n in
    rw (
      value_kept table.modern_size table.modern_flags f.size m (omega arith),
      value_kept table.modern_offset table.modern_flags f.begin
          n (omega arith),
    )
small-flag (Legacy big sources) f n =
    let m : ℕ = with_value table.legacy_offset f.begin n in
    let k : ℕ = with_value table.legacy_size f.size m in
    rw (
      value_kept table.legacy_info table.legacy_flags f.info k (omega arith),
      value_kept table.legacy_size table.legacy_flags f.size m (omega arith),
      value_kept table.legacy_offset table.legacy_flags f.begin n (omega arith),
    )

small_back : (l : Layout) (f : Func) (n : ℕ) → SmallFits l f → small l (put_small l f n) ≡ f
unfolding small put_small
small_back Modern f n h =
    let m : ℕ = with_value table.modern_offset f.begin n in
    func_eq _ _
    (record {
      large = sym h.large;
      ptr = sym h.ptr;
      begin = value_kept table.modern_size table.modern_offset f.size m (omega arith) ∙ value-put table.modern_offset f.begin n
          ∙ mod-eq_of_lt h.fields.begin;
      size = value-put table.modern_size f.size m ∙ mod-eq_of_lt h.fields.size;
      info = sym (h.modern refl);
    })
small_back (Legacy big sources) f n h =
    let m : ℕ = with_value table.legacy_offset f.begin n in
    let k : ℕ = with_value table.legacy_size f.size m in
    func_eq _ _
    (record {
      large = sym h.large;
      ptr = sym h.ptr;
      begin = value_kept table.legacy_info table.legacy_offset f.info k (omega arith)
          ∙ value_kept table.legacy_size table.legacy_offset f.size m (omega arith) ∙ value-put table.legacy_offset f.begin n
          ∙ mod-eq_of_lt h.fields.begin;
      size = value_kept table.legacy_info table.legacy_size f.info k (omega arith) ∙ value-put table.legacy_size f.size m
          ∙ mod-eq_of_lt h.fields.size;
      info = value-put table.legacy_info f.info k ∙ mod-eq_of_lt h.fields.info;
    })

small-lt : (l : Layout) (f : Func) (n : ℕ) → n < 256 ^ (table.record_row l).width → put_small l f n < 256 ^ (table.record_row l).width
unfolding put_small
small-lt Modern f n h =
    with_lt (with_value table.modern_offset f.begin n) 32 14 f.size 96 (omega arith) (with_lt n 0 25 f.begin 96 (omega arith) h)
small-lt (Legacy big sources) f n h =
    let m : ℕ = with_value table.legacy_offset f.begin n in
    with_lt (with_value table.legacy_size f.size m) 64 25 f.info 128 (omega arith)
    (with_lt m 32 15 f.size 128 (omega arith) (with_lt n 0 25 f.begin 128 (omega arith) h))

-- ---- a record with one: the pointer is put whole, or only where it moves

pointed-flag : (l : Layout) (whole : Bool) (p n : ℕ) → is_large l (pointed l whole p n) ≡ is_large l n
unfolding pointed
pointed-flag l whole p n = go (either whole (not (eqb p (pointer l n))))
  where
    go : (b : Bool) → is_large l (pick b (put_pointer l p n) n) ≡ is_large l n
    go true = pointer-flag l p n
    go false = refl

pointed_back : (l : Layout) (whole : Bool) (p n : ℕ) → p < 2 ^ 32 → pointer l (pointed l whole p n) ≡ p
unfolding pointed
pointed_back l true p n h = pointer_back l p n h
pointed_back l false p n h = go (eqb p (pointer l n)) refl
  where
    go : (b : Bool) → eqb p (pointer l n) ≡ b → pointer l (pick (not b) (put_pointer l p n) n) ≡ p
    go true e = sym (eqb-true p (pointer l n) e)
    go false e = pointer_back l p n h

-- ---- either

module _ (l : Layout) (whole : Bool) (f : Func) (n : ℕ) where
  -- the new record fits its bytes
  pub record_lt : n < 256 ^ (table.record_row l).width → put_record l whole f n < 256 ^ (table.record_row l).width
  unfolding pointed
  record_lt h = go f.large (either whole (not (eqb f.ptr (pointer l n))))
    where
      go : (b c : Bool) → pick b (pick c (put_pointer l f.ptr n) n) (put_small l f n) < 256 ^ (table.record_row l).width
      go true true = pointer-lt l f.ptr n h
      go true false = h
      go false c = small-lt l f n h

  -- its flag is the old one's
  pub record_flag : is_large l (put_record l whole f n) ≡ is_large l n
  record_flag = go f.large
    where
      go : (b : Bool) → is_large l (pick b (pointed l whole f.ptr n) (put_small l f n)) ≡ is_large l n
      go true = pointed-flag l whole f.ptr n
      go false = small-flag l f n

  pub record_pointer : f.large ≡ true → f.ptr < 2 ^ 32 → pointer l (put_record l whole f n) ≡ f.ptr
  record_pointer t h = go f.large t
    where
      go : (b : Bool) → b ≡ true → pointer l (pick b (pointed l whole f.ptr n) (put_small l f n)) ≡ f.ptr
      go true t = pointed_back l whole f.ptr n h
      go false t = let z : ◌≡◌ {A = ℕ} 0 1 = cc in absurd (omega arith)

  pub record_small : f.large ≡ false → SmallFits l f → small l (put_record l whole f n) ≡ f
  record_small t h = go f.large t
    where
      go : (b : Bool) → b ≡ false → small l (pick b (pointed l whole f.ptr n) (put_small l f n)) ≡ f
      go false t = small_back l f n h
      go true t = let z : ◌≡◌ {A = ℕ} 0 1 = cc in absurd (omega arith)

-- ---- a function as it is read

-- its flag is its record's
pub func_flag : (l : Layout) (s : List ℕ) (i : ℕ) → is_large l (record_in l s i) ≡ (func_of l s i).large
unfolding func_of header small
func_flag l s i = go l (is_large l (record_in l s i))
  where
    go : (l : Layout) (b : Bool) → b ≡ (pick b (header l (pointer l (record_in l s i)) s) (small l (record_in l s i))).large
    go Modern true = refl
    go (Legacy big sources) true = refl
    go Modern false = refl
    go (Legacy big sources) false = refl

-- with a large header its pointer is its record's
header-pointer : (l : Layout) (p : ℕ) (s : List ℕ) → (header l p s).ptr ≡ p
unfolding header
header-pointer Modern p s = refl
header-pointer (Legacy big sources) p s = refl

pub func_pointer : (l : Layout) (s : List ℕ) (i : ℕ) → is_large l (record_in l s i) ≡ true
    → (func_of l s i).ptr ≡ pointer l (record_in l s i)
unfolding func_of
func_pointer l s i t = rw t (header-pointer l (pointer l (record_in l s i)) s)

small_holds : (l : Layout) (n : ℕ) → SmallFits l (small l n)
unfolding small
small_holds Modern n = record {
  large = refl;
  ptr = refl;
  fields = record { begin = value-lt table.modern_offset n; size = value-lt table.modern_size n; info = omega arith };
  modern = λ e. refl;
}
small_holds (Legacy big sources) n = record {
  large = refl;
  ptr = refl;
  fields = record { begin = value-lt table.legacy_offset n; size = value-lt table.legacy_size n; info = value-lt table.legacy_info n };
  modern = λ e. let z : ◌≡◌ {A = ℕ} 0 1 = cc in absurd (omega arith);
}

-- without a large header it fits a small record
pub small-fits : (l : Layout) (s : List ℕ) (i : ℕ) → (func_of l s i).large ≡ false → SmallFits l (func_of l s i)
unfolding func_of
small-fits l s i t = rw (func_flag l s i ∙ t) (small_holds l (record_in l s i))

-- modern images have no info places
pub modern_info : (s : List ℕ) (i : ℕ) → (func_of Modern s i).info ≡ 0
unfolding func_of header small
modern_info s i = go (is_large Modern (record_in Modern s i))
  where
    go : (b : Bool) → (pick b (header Modern (pointer Modern (record_in Modern s i)) s) (small Modern (record_in Modern s i))).info ≡ 0
    go true = refl
    go false = refl
