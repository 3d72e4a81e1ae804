-- The tests of a path and the facts that they decide, both ways.
use mathlib.Core.Path.{◌≡◌}
use mathlib.Core.Bool.{Bool, true, false, not}
use mathlib.Core.Logic.{inl, inr}
use mathlib.Core.List.{List}
use Prim.Native.Nat.{ℕ, ◌+◌, ◌≤◌, ◌<◌}
use native.Mathlib.Omega.{arith}
use borrow.Author.Tests.{ne_eqb, eq-eqb, eqb-true, eqb-false, le-leb, lt-leb, leb-true, leb-false, lt-ltb, ltb-true, not-true, not-false}
use lib.Dec.{leb, ltb, eqb}
use lib.ListN.{length, get_or}
use Rattle.bits.specs.Choice.{both}
use Rattle.bits.specs.Bytes.{ascii}
use Rattle.bits.proofs.TestLaws.{which, both_0, both_1, imp_false, all_at, all_of, all_not, all_fails}
use Rattle.format.specs.declared.Layout.{Layout}
use Rattle.image.specs.Sections.{strings_in}
use Rattle.image.specs.Strings.{size_of, place_at}
use Rattle.string_overlap.specs.Overlap.{is_apart, is_alone}
use Rattle.string_in_place.specs.Patch.{fits_in_place}
use Rattle.string_reasons.specs.Reasons.{lowest_overlap}
use Rattle.string_reasons.specs.Facts.{Overlaps, GoesInPlace}
use Rattle.string_reasons.proofs.OverlapLaws.{false-true, lowest_is, shared_some}
use Rattle.string_reasons.proofs.PathLaws.{is_of_length}

module _ (value : List ℕ) where
  plain_ascii : ((i : ℕ) → i < length value → get_or value i 0 ≤ 0x7F) → ascii value ≡ true
  unfolding ascii
  plain_ascii h = all_of (λ i. leb (get_or value i 0) 0x7F) (length value) (λ i k. le-leb (get_or value i 0) 0x7F (h i k))

  ascii_plain : ascii value ≡ true → (i : ℕ) → i < length value → get_or value i 0 ≤ 0x7F
  unfolding ascii
  ascii_plain t i h = leb-true (get_or value i 0) 0x7F (all_at (λ i. leb (get_or value i 0) 0x7F) (length value) i t h)

  pub ascii-not : ascii value ≡ false → (i : ℕ) × (i < length value) × (0x7F < get_or value i 0)
  unfolding ascii
  ascii-not f =
      let (i, h, e) = all_not (λ i. leb (get_or value i 0) 0x7F) (length value) f in
      (i, h, leb-false (get_or value i 0) 0x7F e)

  pub not_plain : (i : ℕ) × (i < length value) × (0x7F < get_or value i 0) → ascii value ≡ false
  unfolding ascii
  not_plain (i, h, g) = all_fails (λ i. leb (get_or value i 0) 0x7F) (length value) i h (lt-leb (get_or value i 0) 0x7F g)

module _ (l : Layout) (s : List ℕ) (id : ℕ) where
  overlaps_not : (i : ℕ) → Overlaps l s id i → is_apart l s id i ≡ false
  unfolding is_apart
  overlaps_not i o =
      let p = place_at l s id in
      let q = place_at l s i in
      rw (ne_eqb i id o.other, lt-ltb p.at (q.at + size_of q) o.ahead, lt-ltb q.at (p.at + size_of p) o.behind)

  not_overlaps : (i : ℕ) → i < strings_in s → is_apart l s id i ≡ false → Overlaps l s id i
  unfolding is_apart
  not_overlaps i h e =
      let p = place_at l s id in
      let q = place_at l s i in
      let a : Bool = ltb p.at (q.at + size_of q) in
      let b : Bool = ltb q.at (p.at + size_of p) in
      let (d, n) = imp_false (not (eqb i id)) (not (both a b)) e in
      let t : both a b ≡ true = not-false (both a b) n in
      record {
        known = h;
        other = eqb-false i id (not-true (eqb i id) d);
        ahead = ltb-true p.at (q.at + size_of q) (both_0 a b t);
        behind = ltb-true q.at (p.at + size_of p) (both_1 a b t);
      }

  -- it has its bytes for itself
  alone_of : ((i : ℕ) → Overlaps l s id i → ⊥) → is_alone l s id ≡ true
  unfolding is_alone
  alone_of f =
      all_of (is_apart l s id) (strings_in s)
      (λ i h. elim (which (is_apart l s id i)) [ inl t ↦ t | inr n ↦ absurd (f i (not_overlaps i h n)) ])

  alone_none : is_alone l s id ≡ true → (i : ℕ) → Overlaps l s id i → ⊥
  unfolding is_alone
  alone_none t i o = false-true (is_apart l s id i) (overlaps_not i o) (all_at (is_apart l s id) (strings_in s) i t o.known)

  -- it has not: the lowest id is the one
  pub lowest_overlaps : is_alone l s id ≡ false → Overlaps l s id (lowest_overlap l s id)
      × ((k : ℕ) → k < lowest_overlap l s id → Overlaps l s id k → ⊥)
  lowest_overlaps f =
      let (h, e, a) = shared_some l s id f in
      (not_overlaps (lowest_overlap l s id) h e, λ k g o. false-true (is_apart l s id k) (overlaps_not k o) (a k g))

  pub overlaps_lowest : (i : ℕ) → Overlaps l s id i → ((k : ℕ) → k < i → Overlaps l s id k → ⊥)
      → i ≡ lowest_overlap l s id
  overlaps_lowest i o f =
      lowest_is l s id i
      (all_of (is_apart l s id) i (λ k h. elim (which (is_apart l s id k)) [
        | inl t ↦ t
        | inr n ↦ absurd (f k h (not_overlaps k (omega (arith, o.known)) n))
      ])) o.known (overlaps_not i o)

  pub overlaps_shared : (i : ℕ) → Overlaps l s id i → is_alone l s id ≡ false
  overlaps_shared i o = elim (which (is_alone l s id)) [ inl t ↦ absurd (alone_none t i o) | inr f ↦ f ]

module _ (l : Layout) (s : List ℕ) (id : ℕ) (value : List ℕ) where
  pub goes_fits : GoesInPlace l s id value → fits_in_place l s id value ≡ true
  unfolding fits_in_place
  goes_fits g =
      rw (
        eq-eqb (length value) (size_of (place_at l s id)) g.long,
        plain_ascii value g.plain,
        alone_of l s id g.alone,
        g.narrow,
      )

  pub fits_goes : fits_in_place l s id value ≡ true → GoesInPlace l s id value
  unfolding fits_in_place
  fits_goes t =
      let w : Bool = not (place_at l s id).wide in
      let rest : both (ascii value) (both (is_of_length l s id value) (is_alone l s id)) ≡ true = both_1 w _ t in
      let last : both (is_of_length l s id value) (is_alone l s id) ≡ true = both_1 (ascii value) _ rest in
      record {
        narrow = not-true (place_at l s id).wide (both_0 w _ t);
        plain = ascii_plain value (both_0 (ascii value) _ rest);
        long = eqb-true (length value) (size_of (place_at l s id)) (both_0 (is_of_length l s id value) (is_alone l s id) last);
        alone = alone_none l s id (both_1 (is_of_length l s id value) (is_alone l s id) last);
      }

  -- of the right length and not in place, so not alone
  pub not_alone : (place_at l s id).wide ≡ false → ascii value ≡ true → is_of_length l s id value ≡ true
      → fits_in_place l s id value ≡ false → is_alone l s id ≡ false
  unfolding fits_in_place
  not_alone narrow plain same moves = rw (same, plain, narrow) at moves
