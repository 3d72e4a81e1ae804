-- The two modes beside each other: where no wide string comes to stand at an odd place they make the same image, and even mode never
-- makes a shorter one.
use mathlib.Core.Path.{◌≡◌, refl, ap, sym, ◌∙◌}
use mathlib.Core.Bool.{Bool, true, false}
use mathlib.Core.Logic.{inl, inr}
use mathlib.Core.List.{List}
use Prim.Native.Nat.{ℕ, zero, suc, ◌≤◌, ◌<◌}
use native.Mathlib.Omega.{arith}
use borrow.Author.Tests.{leb-true, le-leb}
use lib.Dec.{leb}
use lib.ListN.{length, length-append, length-replicate}
use Rattle.bits.specs.Choice.{either}
use Rattle.bits.proofs.TestLaws.{which}
use Rattle.format.specs.declared.Layout.{Layout}
use Rattle.format.specs.declared.Mode.TheVariants.{Plain, Even}
use Rattle.format.specs.Entry.{Place, bit, far, long, is_over}
use Rattle.image.specs.Sections.{strings_in}
use Rattle.image.specs.Strings.{Str}
use Rattle.edits.specs.Packing.{Packed, count_of, standing, gap_of, store_of, start_of, placed, packed, NoneOdd}
use Rattle.edits.specs.Rebuild.{overs, smalls, pairs, region, padded, new_tail, rebuild}
use Rattle.edits.proofs.TableLaws.{overs-none, overs_next}
use Rattle.edits.proofs.PackLaws.{store_none, store_next, start_is, size_next}
use Rattle.edits.proofs.RegionLaws.{length-region}

-- ---- a rebuild hangs only on storage and on the places of its strings

module _ (p q : ℕ → Place) where
  pub overs_ext : (n : ℕ) → ((i : ℕ) → i < n → p i ≡ q i) → overs p n ≡ overs q n
  overs_ext zero h = overs-none p ∙ sym (overs-none q)
  overs_ext (suc n) h =
      rw (overs_next p n, overs_next q n, overs_ext n (λ i g. h i (omega arith)), ap (λ (x : Place). bit (is_over x)) (h n (omega arith)))

  pub smalls_ext : (n : ℕ) → ((i : ℕ) → i < n → p i ≡ q i) → smalls p n ≡ smalls q n
  unfolding smalls
  smalls_ext zero h = refl
  smalls_ext (suc n) h =
      rw (smalls_ext n (λ i g. h i (omega arith)), overs_ext n (λ i g. h i (omega arith)), h n (omega arith))

  pub pairs_ext : (n : ℕ) → ((i : ℕ) → i < n → p i ≡ q i) → pairs p n ≡ pairs q n
  unfolding pairs
  pairs_ext zero h = refl
  pairs_ext (suc n) h = rw (pairs_ext n (λ i g. h i (omega arith)), h n (omega arith))

module _ (l : Layout) (q r : Packed) (s : List ℕ) (places : (i : ℕ) → i < strings_in s → q.place i ≡ r.place i)
    (stores : q.store ≡ r.store) where
  region_ext : region (strings_in s) q ≡ region (strings_in s) r
  unfolding region
  region_ext =
      rw (smalls_ext q.place r.place (strings_in s) places, pairs_ext q.place r.place (strings_in s) places, stores)

  tail_ext : new_tail l q s ≡ new_tail l r s
  tail_ext = rw region_ext

  pub rebuild_ext : rebuild l q s ≡ rebuild l r s
  unfolding rebuild
  rebuild_ext = rw (region_ext, overs_ext q.place r.place (strings_in s) places, stores)

-- ---- the packings

module _ (f : ℕ → Str) where
  -- no wide string of n at an odd place: no gaps

  gap-none : (n : ℕ) → NoneOdd (suc n) (placed Plain f) → store_of Even f n ≡ store_of Plain f n
      → gap_of Even (f n).wide (length (store_of Even f n)) ≡ 0
  gap-none n h e = go (f n).wide refl
    where
      go : (b : Bool) → (f n).wide ≡ b → gap_of Even b (length (store_of Even f n)) ≡ 0
      go true w = rw e (omega (arith, h n (omega arith) w, start_is Plain f n))
      go false w = refl

  same_store : (n : ℕ) → NoneOdd n (placed Plain f) → store_of Even f n ≡ store_of Plain f n
  same_store zero h = store_none Even f ∙ sym (store_none Plain f)
  same_store (suc n) h =
      let e = same_store n (λ i g. h i (omega arith)) in
      rw (store_next Even f n, store_next Plain f n, gap-none n h e, e)

  same_place : (n i : ℕ) → NoneOdd n (placed Plain f) → i < n → placed Even f i ≡ placed Plain f i
  same_place n i h g =
      let below : NoneOdd (suc i) (placed Plain f) = λ j k. h j (omega arith) in
      let e = same_store i (λ j k. h j (omega arith)) in
      ap (λ (a : ℕ). standing a (f i)) (start_is Even f i ∙ rw (gap-none i below e, e) (sym (start_is Plain f i)))

  -- even mode never takes less room

  start_le : (i : ℕ) → length (store_of Plain f i) ≤ length (store_of Even f i) → start_of Plain f i ≤ start_of Even f i
  start_le i h = omega (arith, start_is Plain f i, start_is Even f i)

  store_le : (n : ℕ) → length (store_of Plain f n) ≤ length (store_of Even f n)
  store_le zero = rw (store_none Plain f) (omega arith)
  store_le (suc n) = omega (arith, size_next Plain f n, size_next Even f n, start_le n (store_le n))

  over_le : (t : Str) (a b : ℕ) → a ≤ b → bit (is_over (standing a t)) ≤ bit (is_over (standing b t))
  over_le t a b h = elim (which (leb far a)) [
    | inl e ↦ rw (e, le-leb far b (omega (arith, leb-true far a e))) (omega arith)
    | inr e ↦ rw e (go (leb far b) (leb long (count_of t)))
  ]
    where
      go : (x y : Bool) → bit y ≤ bit (either x y)
      go true true = omega arith
      go true false = omega arith
      go false y = omega arith

  overs-le : (n : ℕ) → overs (placed Plain f) n ≤ overs (placed Even f) n
  overs-le zero = rw (overs-none (placed Plain f)) (omega arith)
  overs-le (suc n) =
      omega (
        arith,
        overs_next (placed Plain f) n,
        overs_next (placed Even f) n,
        overs-le n,
        over_le (f n) (start_of Plain f n) (start_of Even f n) (start_le n (store_le n)),
      )

-- ---- the images

module _ (l : Layout) (f : ℕ → Str) (s : List ℕ) where
  abbrev plain : Packed
  plain = packed Plain f (strings_in s)

  abbrev even : Packed
  even = packed Even f (strings_in s)

  pub same_tail : NoneOdd (strings_in s) (placed Plain f) → new_tail l even s ≡ new_tail l plain s
  same_tail h = tail_ext l even plain s (λ i g. same_place f (strings_in s) i h g) (same_store f (strings_in s) h)

  pub same_rebuilt : NoneOdd (strings_in s) (placed Plain f) → rebuild l even s ≡ rebuild l plain s
  same_rebuilt h = rebuild_ext l even plain s (λ i g. same_place f (strings_in s) i h g) (same_store f (strings_in s) h)

  pub tail_le : new_tail l plain s ≤ new_tail l even s
  unfolding padded
  tail_le =
      let n : ℕ = strings_in s in
      rw (length-append, length-append, length-replicate, length-replicate, length-region n plain, length-region n even)
      (omega (arith, overs-le f n, store_le f n))
