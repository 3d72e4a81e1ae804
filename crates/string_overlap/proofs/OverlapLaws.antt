-- The overlap of two places, and the pass over all of them.
use mathlib.Core.Path.{◌≡◌, refl, ap, sym, ◌∙◌}
use mathlib.Core.Bool.{Bool, true, false, not}
use mathlib.Core.Logic.{inl, inr, ◌≢◌}
use mathlib.Core.List.{List}
use Prim.Native.Nat.{ℕ, zero, suc, ◌+◌, ◌≤◌, ◌<◌}
use native.Mathlib.Numerals.{add-one}
use native.Mathlib.Omega.{arith}
use borrow.Author.Tests.{le-leb, lt-leb, leb-true, lt-ltb, le-ltb, ne_eqb, eqb-false, not-true}
use lib.Dec.{ltb, eqb}
use Rattle.bits.specs.Choice.{implies, all_below}
use Rattle.bits.proofs.TestLaws.{below, below_or, both-none, imp_of, all_at, all_of, all_fails}
use Rattle.bits.proofs.PassLaws.{pass_next, pass_more, pass_stop, pass_end}
use Rattle.format.specs.declared.Layout.{Layout}
use Rattle.format.specs.Entry as entry
use Rattle.image.specs.Sections.{strings_in}
use Rattle.image.specs.Strings.{size_of, place_at}
use Rattle.sections.specs.declared.Places.{Places}
use Rattle.sections.specs.Places.{Placed}
use Rattle.sections.proofs.SectionLaws.{Sectioned, sectioned}
use Rattle.string_tables.specs.declared.Place.{Place}
use Rattle.string_tables.specs.Strings.{as_place}
use Rattle.string_walk.specs.Places.{Lies}
use Rattle.string_overlap.specs.Overlap.{Low, overlap, is_apart, is_alone, end_before, starts_behind, are_in_row}

module _ (p q : entry.Place) (n m : ℕ) (e : n ≡ size_of q) where
  pub behind : q.at + n ≤ p.at → false ≡ overlap p q
  behind h = rw (← e, le-ltb p.at (q.at + n) h)

  pub before : p.at < q.at + n → m ≡ size_of p → ltb q.at (p.at + m) ≡ overlap p q
  before h f = rw (← e, lt-ltb p.at (q.at + n) h, f)

pub is_other_lem : (i id : ℕ) (b c : Bool) → (i ≡ id → ⊥) → c ≡ b → not c ≡ implies (not (eqb i id)) (not b)
is_other_lem i id b c h e = rw (ne_eqb i id h, e)

-- a place in storage is low
pub lies_low : (p : Places) (s : List ℕ) → Placed p s → (i : ℕ) (r : Place) → Lies p s i r → Low r
lies_low p s pl i r st =
    let z : Sectioned p s = sectioned p s pl in
    (omega (arith, st.stored), omega (arith, st.count, st.stored))

-- string i was compared with string id, each where it stands
pub record OverlapTested (p : Places) (s : List ℕ) (id i : ℕ) (own other : Place) (r : Bool) : Type 0 where
  pub placed : Placed p s
  pub this : Lies p s id own
  pub that : Lies p s i other
  pub tested : r ≡ implies (not (eqb i id)) (not (overlap (as_place own) (as_place other)))

module _ (p : Places) (s : List ℕ) (id i : ℕ) (own other : Place) (r : Bool) (h : OverlapTested p s id i own other r) where
  pub apart-is : r ≡ is_apart p.layout s id i
  unfolding is_apart
  apart-is =
      h.tested ∙ ap (λ (q : entry.Place). implies (not (eqb i id)) (not (overlap q (as_place other)))) h.this.is
      ∙ ap (λ (q : entry.Place). implies (not (eqb i id)) (not (overlap (place_at p.layout s id) q))) h.that.is

  pub alone_next : not r ≡ false → all_below i (is_apart p.layout s id) ≡ true
      → all_below (i + 1) (is_apart p.layout s id) ≡ true
  alone_next t a = pass_next (is_apart p.layout s id) i r apart-is t a

  pub not_alone : not r ≡ true → i < p.strings → false ≡ is_alone p.layout s id
  unfolding is_alone
  not_alone t b =
      rw (← (sectioned p s h.placed).strings) (pass_stop (is_apart p.layout s id) p.strings i r b apart-is t)

pub alone : (p : Places) (s : List ℕ) → Placed p s → (id i : ℕ) → i ≡ p.strings
    → all_below i (is_apart p.layout s id) ≡ true → true ≡ is_alone p.layout s id
unfolding is_alone
alone p s pl id i e a = rw (← (sectioned p s pl).strings) (pass_end (is_apart p.layout s id) p.strings i e a)

-- ---- strings in a row

module _ (p : Places) (s : List ℕ) (pl : Placed p s) (i end : ℕ) (q : Place) (li : Lies p s i q)
    (e : end ≡ end_before p.layout s i) where
  starts_at : q.at ≡ (place_at p.layout s i).at
  starts_at = ap (λ (x : entry.Place). x.at) li.is

  pub not_in_row : q.at < end → i < p.strings → false ≡ are_in_row p.layout s
  unfolding are_in_row
  not_in_row h k =
      sym (all_fails (starts_behind p.layout s) (strings_in s) i (omega (arith, k, (sectioned p s pl).strings))
      (lt-leb (end_before p.layout s i) (place_at p.layout s i).at (omega (arith, e, starts_at))))

  pub row_next : end ≤ q.at → all_below i (starts_behind p.layout s) ≡ true
      → all_below (i + 1) (starts_behind p.layout s) ≡ true
  row_next h a =
      pass_more (starts_behind p.layout s) i
      (le-leb (end_before p.layout s i) (place_at p.layout s i).at (omega (arith, e, starts_at))) a

  pub row_end : (n : ℕ) → n ≡ size_of (as_place q) → q.at + n ≡ end_before p.layout s (i + 1)
  row_end n f = rw (f, add-one) (ap (λ (x : entry.Place). x.at + size_of x) li.is)

pub row_all : (p : Places) (s : List ℕ) → Placed p s → (i : ℕ) → i ≡ p.strings
    → all_below i (starts_behind p.layout s) ≡ true → true ≡ are_in_row p.layout s
unfolding are_in_row
row_all p s pl i e a = rw (← (sectioned p s pl).strings) (pass_end (starts_behind p.layout s) p.strings i e a)

module _ (l : Layout) (s : List ℕ) (t : are_in_row l s ≡ true) where
  behind_one : (j : ℕ) → j < strings_in s → end_before l s j ≤ (place_at l s j).at
  unfolding are_in_row
  behind_one j h = leb-true (end_before l s j) (place_at l s j).at (all_at (starts_behind l s) (strings_in s) j t h)

  -- each ends before any later one starts
  behind_all : (i j : ℕ) → i < j → j < strings_in s → (place_at l s i).at + size_of (place_at l s i) ≤ (place_at l s j).at
  behind_all i zero h k = absurd (omega arith)
  behind_all i (suc j) h k = elim (below i j h) [
    | inl e ↦ rw e (behind_one (suc j) k)
    | inr g ↦ omega (arith, behind_all i j g (omega arith), behind_one (suc j) k)
  ]

  apart : (id j : ℕ) → id < strings_in s → j < strings_in s → j ≢ id → overlap (place_at l s id) (place_at l s j) ≡ false
  apart id j h k d = elim (below_or j id) [
    | inl g ↦ sym (behind (place_at l s id) (place_at l s j) _ 0 refl (behind_all j id g h))
    | inr g ↦ rw (le-ltb (place_at l s j).at ((place_at l s id).at + size_of (place_at l s id)) (behind_all id j (omega (arith, d)) k))
        (both-none (ltb (place_at l s id).at ((place_at l s j).at + size_of (place_at l s j))))
  ]

  -- so each has its bytes for itself
  pub row_alone : (id : ℕ) → id < strings_in s → is_alone l s id ≡ true
  unfolding is_alone is_apart
  row_alone id h =
      all_of (is_apart l s id) (strings_in s)
      (λ j k. imp_of (not (eqb j id)) (not (overlap (place_at l s id) (place_at l s j)))
      (λ d. rw (apart id j h k (eqb-false j id (not-true (eqb j id) d)))))
