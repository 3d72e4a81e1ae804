-- A string that a walk or a pass comes to: its entries are there, its place lies in storage, and the counts go on; and what a location
-- says.
use Rattle.std.specs.Prelude.{Ok, Err, Result}
use mathlib.Core.Path.{◌≡◌, refl, sym, ◌∙◌, ap, subst, subst⁻¹}
use mathlib.Core.Bool.{Bool, true, false}
use mathlib.Core.List.{List}
use Prim.Native.Nat.{ℕ, ◌+◌, ◌*◌, ◌≤◌, ◌<◌}
use native.Mathlib.Numerals.{add-one}
use native.Mathlib.Omega.{arith}
use lib.ListN.{length}
use Rattle.refusals.specs.Numbers as refusals
use Rattle.format.specs.Entry as entry
use Rattle.image.specs.Sections.{strings_in, storage_in}
use Rattle.image.specs.Strings.{is_full, over_before, place_of, locate, small_in, pair_in, over_in, place_at, unit_size, size_of}
use Rattle.image.proofs.PlaceLaws.{overflow_in}
use Rattle.sections.specs.declared.Places.{Places}
use Rattle.sections.specs.Places.{Laid}
use Rattle.sections.proofs.SectionLaws.{Sectioned, sectioned}
use Rattle.string_tables.specs.declared.Place.{Place}
use Rattle.string_tables.specs.Strings.{as_place}
use Rattle.string_tables.proofs.StringLaws.{image_place}
use Rattle.string_walk.specs.declared.Counts.{Counts}
use Rattle.string_walk.specs.declared.Cursor.{Cursor}
use Rattle.string_walk.specs.declared.Location.{Location}
use Rattle.string_walk.specs.declared.StringRecord.{StringRecord}
use Rattle.string_walk.specs.declared.Visited.{Visited}
use Rattle.string_walk.specs.Places.{Lies, Stands, counts_of, VisitedOf, Locates}
use Rattle.string_walk.specs.Walk.{visits, Walked}
use Rattle.string_walk.proofs.VisitLaws.{over_most, walked_over, over_walked, walked_visits}

-- ---- the count of pairs, one entry further

pub over_next_lem : (w : ℕ → ℕ) (i k x r : ℕ) → k ≡ over_before w i → x ≡ w i → r ≡ k + entry.bit (is_full x)
    → r ≡ over_before w (i + 1)
unfolding over_before
over_next_lem w i k x r e f g = g ∙ rw (add-one, e, f)

pub count_in : (q : entry.Place) → q.count ≤ size_of q
count_in q = go q.wide q.count
  where
    go : (w : Bool) (n : ℕ) → n ≤ n * unit_size w
    go true n = omega arith
    go false n = omega arith

-- ---- a string that is visited

-- a walk comes to string c .small of an admitted image, whose small entry is x
pub record EntryAt (p : Places) (s : List ℕ) (c : Counts) (x : ℕ) : Type 0 where
  pub laid : Laid p s
  pub walked : Walked p.layout s c
  pub known : c.small < p.strings
  pub entry : x ≡ small_in p.layout s c.small

module _ (p : Places) (s : List ℕ) (c : Counts) (x : ℕ) (h : EntryAt p s c x) where
  abbrev w : ℕ → ℕ
  w = small_in p.layout s

  over : c.over ≡ over_before w c.small
  over = walked_over p.layout s c h.walked

  id_in_lem : c.small < strings_in s
  id_in_lem = omega (arith, h.known, (sectioned p s h.laid.placed).strings)

  pub pair_there : is_full x ≡ true → p.over_at + c.over * 8 + 8 ≤ length s
  pair_there t =
      let z : Sectioned p s = sectioned p s h.laid.placed in
      omega (arith, over, overflow_in h.laid.admitted c.small id_in_lem (ap is_full (sym h.entry) ∙ t))

  pub pairs_few : (p.over_at < 1099511627776) × (c.over < 4294967296)
  pairs_few =
      let z : Sectioned p s = sectioned p s h.laid.placed in
      (omega arith, omega (arith, h.known, over, over_most w c.small))

  located : place_of (over_in p.layout s) c.over x ≡ place_at p.layout s c.small
  unfolding place_at locate
  located = rw (over, h.entry)

  pub lies : (r : Place) → as_place r ≡ place_of (pair_in p.over_at s) c.over x → Lies p s c.small r
  lies r g =
      let z : Sectioned p s = sectioned p s h.laid.placed in
      let q : as_place r ≡ place_at p.layout s c.small = g ∙ image_place p s h.laid.placed c.over x ∙ located in
      let m : r.at + size_of (as_place r) ≤ storage_in s
      = subst⁻¹ (λ (y : entry.Place). y.at + size_of y ≤ storage_in s) q (h.laid.admitted.stored c.small id_in_lem) in
      record { is = q; count = count_in (as_place r); stored = omega arith; before = omega arith }

  pub walked_next : (n : Counts) → n.small ≡ c.small + 1 → n.over ≡ c.over + entry.bit (is_full x) → Walked p.layout s n
  walked_next n e f =
      over_walked p.layout s n (over_next_lem w c.small c.over x n.over over h.entry f ∙ ap (over_before w) (sym e))

-- behind a string of a pass, what is visited is what locating that string visits
pub pass_visits : (p : Places) (s : List ℕ) (c : Cursor) (r : Visited) → VisitedOf p s c r → (n : Counts) → n ≡ counts_of r.next
    → n ≡ visits p.layout s c.id
pass_visits p s c r v n e = e ∙ walked_visits p.layout s (counts_of r.next) v.next.walked c.id v.id

-- ---- what a location says

-- the string that a pass comes to at its id
pub located_pass : (p : Places) (s : List ℕ) (c : Cursor) (r : Visited) (id : ℕ) → VisitedOf p s c r → c.id ≡ id
    → id < p.strings
    → Locates p s id refusals.id (Ok (record { id = id; string = r.string; counts = counts_of r.next }))
located_pass p s c r id v e known =
    (refl, known, rw e at v.string, rw e at (pass_visits p s c r v (counts_of r.next) refl))

module _ (p : Places) (s : List ℕ) (id n : ℕ) (r : Result Location ℕ) (h : Locates p s id n r) where
  pub located_at : (q : Location) → r ≡ Ok q
      → (q.id ≡ id) × (id < p.strings) × Stands p s id q.string × (q.counts ≡ visits p.layout s id)
  located_at q e = subst (λ (x : Result Location ℕ). Locates p s id n x) e h

  -- said of the id that it tells
  pub located_self : (q : Location) → r ≡ Ok q → (q.id < p.strings) × Stands p s q.id q.string
  located_self q e =
      let (x, known, st, _) = located_at q e in
      (rw x known, subst⁻¹ (λ (j : ℕ). Stands p s j q.string) x st)

  pub located_none : (m : ℕ) → r ≡ Err m → (m ≡ n) × (p.strings ≤ id)
  located_none m e = subst (λ (x : Result Location ℕ). Locates p s id n x) e h
