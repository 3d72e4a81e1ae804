-- The writes of one function, of all functions one by one, and of all records before all large headers.
use mathlib.Core.Path.{◌≡◌, refl, ap, sym, ◌∙◌, subst⁻¹}
use mathlib.Core.Bool.{Bool, true, false, not}
use mathlib.Core.Logic.{inl, inr}
use mathlib.Core.List.{List, [], ◌∷◌, ◌++◌}
use Prim.Native.Nat.{ℕ, zero, suc, ◌+◌, ◌≤◌, ◌<◌}
use native.Mathlib.Numerals.{add-one}
use native.Mathlib.Omega.{arith}
use borrow.Author.Tests.{not-true, not-false}
use lib.Dec.{eqb}
use lib.ListN.{length}
use lib.Seq.{sets}
use Rattle.bits.specs.Choice.{pick}
use Rattle.bits.specs.Bytes.{bytes_of}
use Rattle.bits.proofs.ByteLaws.{length-bytes_of}
use Rattle.bits.proofs.TestLaws.{below_or}
use Rattle.bits.proofs.WriteLaws.{sets_comm}
use Rattle.format.specs.declared.Layout.{Layout}
use Rattle.format.specs.declared.Layout.TheVariants.{Modern, Legacy}
use Rattle.format.specs.Table as table
use Rattle.format.specs.Record.{is_large, pointer}
use Rattle.format.specs.Move.{moved}
use Rattle.format.proofs.MoveLaws.{moved-low, moved-high}
use Rattle.image.specs.Sections.{functions_in, record_at, kinds_at, tail_at}
use Rattle.image.specs.Functions.{Func, small, header, record_in, func_of}
use Rattle.edits.specs.Edit.{Write, write_all, groups, put_small, pointed, put_header, record_group, header_group, move_func}
use Rattle.edits.specs.Fit.{FitsFields, FitsWords, FitsPlaces}
use Rattle.edits.specs.Rebuild.{resized}
use Rattle.edits.proofs.WriteLaws.{writes_append}
use Rattle.image.proofs.PlaceLaws.{ordered, record_in_lem}
use Rattle.image.proofs.CheckLaws.{headers_in_lem}
use Rattle.function_table.proofs.ReadLaws.{SmallRead, LargeRead, small_is, is-small, header_is, is_large_lem}
use Rattle.relocate.specs.declared.Cause.{Cause}
use Rattle.relocate.specs.declared.Cause.TheVariants.{Strings, Body}
use Rattle.relocate.specs.declared.Move.{Move}
use Rattle.relocate.specs.Relocate.{moved_place, writes_all, func_for, func_after, function_group, Movable}

-- ---- a patch leaves the flag of a function, and moves its pointer

pub after-flag : (mv : ℕ → ℕ) (p : Cause) (i : ℕ) (f : Func) → (func_for mv p i f).large ≡ f.large
after-flag mv Strings i f = refl
after-flag mv (Body id size) i f = go (eqb i id)
  where
    go : (b : Bool) → (pick b (resized mv size f) (move_func mv f)).large ≡ f.large
    go true = refl
    go false = refl

pub after-pointer : (mv : ℕ → ℕ) (p : Cause) (i : ℕ) (f : Func) → (func_for mv p i f).ptr ≡ mv f.ptr
after-pointer mv Strings i f = refl
after-pointer mv (Body id size) i f = go (eqb i id)
  where
    go : (b : Bool) → (pick b (resized mv size f) (move_func mv f)).ptr ≡ mv f.ptr
    go true = refl
    go false = refl

-- ---- the writes of one function

-- function i as it is read, by its record's number n and its flag b, and as it is to be
pub record Moved (l : Layout) (s : List ℕ) (m : Move) (i n : ℕ) (b : Bool) (f₀ f : Func) : Type 0 where
  pub number : n ≡ record_in l s i
  pub flag : b ≡ is_large l n
  pub after : f ≡ func_for (moved_place m) m.cause i f₀

-- one without a large header
pub record SmallMoved (l : Layout) (s : List ℕ) (m : Move) (i n : ℕ) (b : Bool) (f₀ f : Func) : Type 0 where
  pub read : Moved l s m i n b f₀ f
  pub without : not b ≡ true
  pub own : f₀ ≡ small l n

-- one with a large header at p
pub record LargeMoved (l : Layout) (s : List ℕ) (m : Move) (i n : ℕ) (b : Bool) (f₀ f : Func) (p : ℕ) : Type 0 where
  pub read : Moved l s m i n b f₀ f
  pub large : not b ≡ false
  pub place : p ≡ pointer l n
  pub own : f₀ ≡ header l p s

-- its record r, put into o, and then its large header
pub record LargePut (l : Layout) (m : Move) (i n : ℕ) (f : Func) (r : ℕ) (all : Bool) (o o₁ o₂ : List ℕ) : Type 0 where
  pub whole : all ≡ writes_all m.cause
  pub number : r ≡ pointed l all f.ptr n
  pub slot : o₁ ≡ sets o (record_at l i) (bytes_of (table.record_row l).width r)
  pub words : o₂ ≡ write_all (put_header l f) o₁

module _ (l : Layout) (s : List ℕ) (m : Move) (i : ℕ) where
  -- by the function's flag
  abbrev writes_by : Bool → Func → List Write
  writes_by b f =
      record {
        place = record_at l i;
        bytes = bytes_of (table.record_row l).width
            (pick b (pointed l (writes_all m.cause) f.ptr (record_in l s i)) (put_small l f (record_in l s i)));
      }
      ∷ pick b (put_header l f) []

  group_of : (f : Func) (b : Bool) → f ≡ func_after l s m i → f.large ≡ b → function_group l s m i ≡ writes_by b f
  unfolding record_group header_group
  group_of f b h z = ap (λ (g : Func). writes_by g.large g) (sym h) ∙ ap (λ (x : Bool). writes_by x f) z

  module _ (n : ℕ) (b : Bool) (f₀ f : Func) where
    small-after : SmallMoved l s m i n b f₀ f → (f ≡ func_after l s m i) × (f.large ≡ false)
    small-after got =
        let y : SmallRead l s i n = record { number = got.read.number; flag = sym got.read.flag ∙ not-true b got.without } in
        let a : f ≡ func_after l s m i = got.read.after ∙ ap (func_for (moved_place m) m.cause i) (small_is y f₀ got.own) in
        (a, ap (λ (x : Func). x.large) a ∙ after-flag (moved_place m) m.cause i (func_of l s i) ∙ is-small y)

    pub small_group : SmallMoved l s m i n b f₀ f → (r : ℕ) (o o₁ : List ℕ) → r ≡ put_small l f n
        → o₁ ≡ sets o (record_at l i) (bytes_of (table.record_row l).width r) → o₁ ≡ write_all (function_group l s m i) o
    unfolding write_all
    small_group got r o o₁ k j =
        let a = small-after got in
        j ∙ ap (λ (x : ℕ). sets o (record_at l i) (bytes_of (table.record_row l).width x)) (k ∙ ap (put_small l f) got.read.number)
        ∙ ap (λ (ws : List Write). write_all ws o) (sym (group_of f false a.0 a.1))

    -- its record holds it
    pub fields_held : SmallMoved l s m i n b f₀ f → (room : ℕ) → Movable l s m room → i < functions_in s → FitsFields l f
    fields_held got room ok c =
        let a = small-after got in
        (subst⁻¹ (λ (x : Func). FitsPlaces l x) a.0 (ok.writable i c)).as_small a.1

    module _ (p : ℕ) (got : LargeMoved l s m i n b f₀ f p) where
      large_read : LargeRead l s i n p
      large_read =
          record { number = got.read.number; flag = sym got.read.flag ∙ not-false b got.large; place = got.place }

      is-after : f ≡ func_after l s m i
      is-after = got.read.after ∙ ap (func_for (moved_place m) m.cause i) (header_is large_read f₀ got.own)

      flag-after : f.large ≡ true
      flag-after = ap (λ (x : Func). x.large) is-after ∙ after-flag (moved_place m) m.cause i (func_of l s i) ∙ is_large_lem large_read

      pub large_group : (r : ℕ) (all : Bool) (o o₁ o₂ : List ℕ) → LargePut l m i n f r all o o₁ o₂
          → o₂ ≡ write_all (function_group l s m i) o
      unfolding write_all
      large_group r all o o₁ o₂ put =
          let y : r ≡ pointed l (writes_all m.cause) f.ptr (record_in l s i)
          = put.number ∙ rw (put.whole, got.read.number) in
          put.words
          ∙ ap (write_all (put_header l f))
          (put.slot ∙ ap (λ (x : ℕ). sets o (record_at l i) (bytes_of (table.record_row l).width x)) y)
          ∙ ap (λ (ws : List Write). write_all ws o) (sym (group_of f true is-after flag-after))

      -- its large header has room where it goes
      pub header_held : (room : ℕ) → Movable l s m room → i < functions_in s → f.ptr + (table.large_row l).width ≤ room
      header_held room ok c =
          let z : f.ptr ≡ moved_place m (func_of l s i).ptr
          = ap (λ (x : Func). x.ptr) is-after ∙ after-pointer (moved_place m) m.cause i (func_of l s i) in
          rw z (ok.held i c (is_large_lem large_read))

      -- and its words hold it
      pub words_held : (room : ℕ) → Movable l s m room → i < functions_in s → FitsWords f
      words_held room ok c = (subst⁻¹ (λ (x : Func). FitsPlaces l x) is-after (ok.writable i c)).as_large flag-after

-- ---- those of all functions

pub groups_none : (g : ℕ → List Write) (o : List ℕ) → o ≡ write_all (groups 0 g) o
unfolding groups write_all
groups_none g o = refl

pub groups_more : (g : ℕ → List Write) (i : ℕ) (o o₁ o₂ : List ℕ) → o₁ ≡ write_all (groups i g) o
    → o₂ ≡ write_all (g i) o₁ → o₂ ≡ write_all (groups (i + 1) g) o
unfolding groups
groups_more g i o o₁ o₂ p q = rw (add-one, writes_append (groups i g) (g i) o, ← p) q

-- ---- writes before a place and writes at or past it, in either order

abbrev pub Before : ℕ → List Write → Type 0
Before n [] = Unit {0}
Before n (w ∷ ws) = (w.place + length w.bytes ≤ n) × Before n ws

abbrev pub Past : ℕ → List Write → Type 0
Past n [] = Unit {0}
Past n (w ∷ ws) = (n ≤ w.place) × Past n ws

one_comm : (n : ℕ) (w : Write) (ys : List Write) (o : List ℕ) → w.place + length w.bytes ≤ n → Past n ys
    → sets (write_all ys o) w.place w.bytes ≡ write_all ys (sets o w.place w.bytes)
unfolding write_all
one_comm n w [] o h k = refl
one_comm n w (y ∷ ys) o h k =
    one_comm n w ys (sets o y.place y.bytes) h k.1
    ∙ ap (λ (l : List ℕ). write_all ys l) (sets_comm w.bytes y.bytes o w.place y.place (omega (arith, h, k.0)))

writes_comm : (n : ℕ) (xs ys : List Write) (o : List ℕ) → Before n xs → Past n ys
    → write_all xs (write_all ys o) ≡ write_all ys (write_all xs o)
unfolding write_all
writes_comm n [] ys o h k = refl
writes_comm n (x ∷ xs) ys o h k = rw (one_comm n x ys o h.0 k) (writes_comm n xs ys (sets o x.place x.bytes) h.1 k)

past_append : (n : ℕ) (xs ys : List Write) → Past n xs → Past n ys → Past n (xs ++ ys)
past_append n [] ys h k = k
past_append n (x ∷ xs) ys h k = (h.0, past_append n xs ys h.1 k)

past_groups : (n k : ℕ) (b : ℕ → List Write) → ((j : ℕ) → j < k → Past n (b j)) → Past n (groups k b)
unfolding groups
past_groups n zero b h = tt
past_groups n (suc k) b h = past_append n (groups k b) (b k) (past_groups n k b (λ j l. h j (omega arith))) (h k (omega arith))

groups-apart : (n k : ℕ) (a b : ℕ → List Write) (o : List ℕ) → ((j : ℕ) → j < k → Before n (a j))
    → ((j : ℕ) → j < k → Past n (b j))
    → write_all (groups k (λ j. a j ++ b j)) o ≡ write_all (groups k b) (write_all (groups k a) o)
unfolding groups
groups-apart n zero a b o h l = sym (groups_none (λ j. a j ++ b j) o) ∙ groups_none a o ∙ groups_none b (write_all (groups 0 a) o)
groups-apart n (suc k) a b o h l =
    rw (
      writes_append (groups k (λ j. a j ++ b j)) (a k ++ b k) o,
      groups-apart n k a b o (λ j m. h j (omega arith)) (λ j m. l j (omega arith)),
      writes_append (a k) (b k),
      writes_append (groups k a) (a k) o,
      writes_append (groups k b) (b k),
      writes_comm n (a k) (groups k b) (write_all (groups k a) o) (h k (omega arith)) (past_groups n k b (λ j m. l j (omega arith))),
    )

-- ---- records stand before the kinds, large headers behind

header_past : (l : Layout) (f : Func) (n : ℕ) → n ≤ f.ptr → Past n (put_header l f)
unfolding put_header
header_past Modern f n h = (omega arith, (omega arith, tt))
header_past (Legacy x y) f n h = (omega arith, (omega arith, (omega arith, tt)))

moved_past : (from to p n : ℕ) → n ≤ to → n ≤ p → n ≤ moved from to p
moved_past from to p n h k =
    elim (below_or p from) [ inl t ↦ rw (moved-low from to p t) k | inr t ↦ rw (moved-high from to p t) (omega arith) ]

module _ (l : Layout) (s : List ℕ) (m : Move) (room : ℕ) (ok : Movable l s m room) where
  records_before : (j : ℕ) → j < functions_in s → Before (kinds_at l s) (record_group l (writes_all m.cause) s (func_after l s m) j)
  unfolding record_group
  records_before j h = (rw length-bytes_of (record_in_lem l s j h), tt)

  headers_past : (j : ℕ) → j < functions_in s → Past (kinds_at l s) (header_group l (func_after l s m) j)
  unfolding header_group
  headers_past j h = go (func_after l s m j).large refl
    where
      go : (b : Bool) → (func_after l s m j).large ≡ b → Past (kinds_at l s) (pick b (put_header l (func_after l s m j)) [])
      go false e = tt
      go true e =
          let t : (func_of l s j).large ≡ true = sym (after-flag (moved_place m) m.cause j (func_of l s j)) ∙ e in
          let p : tail_at l s ≤ (func_of l s j).ptr = ((headers_in_lem l s).holds ok.headers j h t).0 in
          let o = ordered l s in
          header_past l (func_after l s m j) (kinds_at l s)
          (rw (after-pointer (moved_place m) m.cause j (func_of l s j))
          (moved_past m.from m.to (func_of l s j).ptr (kinds_at l s) ok.past
          (omega (arith, o.hashes, o.small, o.over, o.storage, o.tail, p))))

  -- function by function is all records, then all large headers
  pub functions_apart : (o : List ℕ) → write_all (groups (functions_in s) (function_group l s m)) o
      ≡ write_all (groups (functions_in s) (header_group l (func_after l s m)))
      (write_all (groups (functions_in s) (record_group l (writes_all m.cause) s (func_after l s m))) o)
  functions_apart o =
      groups-apart (kinds_at l s) (functions_in s) (record_group l (writes_all m.cause) s (func_after l s m))
      (header_group l (func_after l s m)) o records_before headers_past
