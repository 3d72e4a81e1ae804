-- What stands where a record says is the string of the definitions: its bytes, and its units one by one.
use Rattle.std.specs.Prelude.{Option}
use mathlib.Core.Path.{◌≡◌, sym, ◌∙◌, ap}
use mathlib.Core.Bool.{Bool, true, false}
use mathlib.Core.List.{List}
use Prim.Native.Nat.{ℕ, ◌+◌, ◌*◌, ◌≤◌, ◌<◌}
use native.Mathlib.Omega.{arith}
use lib.ListN.{length, get_or}
use Rattle.bits.specs.Bytes.{bytes_at}
use Rattle.format.specs.Entry as entry
use Rattle.image.specs.Sections.{storage_at}
use Rattle.image.specs.Strings.{Str, unit_size, size_of, string_of, units_of}
use Rattle.sections.specs.declared.Places.{Places}
use Rattle.sections.specs.Places.{Placed}
use Rattle.sections.proofs.SectionLaws.{Sectioned, sectioned}
use Rattle.string_tables.specs.Strings.{as_place}
use Rattle.string_walk.specs.declared.StringRecord.{StringRecord}
use Rattle.string_walk.specs.Records.{rank_in, record_of}
use Rattle.string_walk.specs.Places.{Stands}
use Rattle.string_walk.specs.Units.{unit_at}
use Rattle.string_walk.proofs.UnitLaws.{units_count, units_at_lem}

-- the bytes that a record points at
abbrev pub standing : List ℕ → StringRecord → Str
standing s r = record { wide = r.place.wide; bytes = bytes_at s r.start (size_of (as_place r.place)) }

module _ (p : Places) (s : List ℕ) (h : Placed p s) (i : ℕ) (r : StringRecord) (g : Stands p s i r) where
  pub start_is : r.start ≡ storage_at p.layout s + r.place.at
  start_is = g.start ∙ ap (λ (a : ℕ). a + r.place.at) (sectioned p s h).storage_from

  -- by the walk or in a pass, it is the same one
  pub record_is : r ≡ record_of p.layout s i
  unfolding record_of
  record_is =
      ap (λ (a : ℕ). record { start = a; place = r.place; rank = r.rank }) start_is
      ∙ ap (λ (k : Option ℕ). record { start = storage_at p.layout s + r.place.at; place = r.place; rank = k }) g.rank
      ∙ ap (λ (q : entry.Place).
      record {
        start = storage_at p.layout s + q.at;
        place = record { wide = q.wide; at = q.at; count = q.count };
        rank = rank_in p.layout s i;
      }) g.place.is

  -- its numbers are small, so that no sum wraps
  pub record_small : (r.place.count < 4294967296) × (r.place.at < 4294967296)
  record_small =
      let z : Sectioned p s = sectioned p s h in
      (omega (arith, g.place.count, g.place.stored), omega (arith, g.place.stored))

  pub record_inside : r.start + size_of (as_place r.place) ≤ length s
  record_inside = let z : Sectioned p s = sectioned p s h in omega (arith, g.start, g.place.before)

  pub record_string : standing s r ≡ string_of p.layout s i
  unfolding string_of
  record_string =
      ap (λ (a : ℕ). record { wide = r.place.wide; bytes = bytes_at s a (size_of (as_place r.place)) }) start_is
      ∙ ap (λ (q : entry.Place). record { wide = q.wide; bytes = bytes_at s (storage_at p.layout s + q.at) (size_of q) })
      g.place.is

  -- ---- its units

  pub record_count : r.place.count ≡ length (units_of (string_of p.layout s i))
  record_count =
      sym (units_count s r.start r.place.count r.place.wide) ∙ ap (λ (t : Str). length (units_of t)) record_string

  module _ (j : ℕ) (b : j < r.place.count) where
    pub record_unit : unit_at s r.start r.place.wide j ≡ get_or (units_of (string_of p.layout s i)) j 0
    record_unit =
        sym (units_at_lem s r.start r.place.count r.place.wide j b) ∙ ap (λ (t : Str). get_or (units_of t) j 0) record_string

  -- as many as it has lie in the image
  pub units_inside : (n : ℕ) → n ≤ r.place.count → r.start + n * unit_size r.place.wide ≤ length s
  units_inside n b = go r.place.wide record_inside
    where
      go : (w : Bool) → r.start + r.place.count * unit_size w ≤ length s → r.start + n * unit_size w ≤ length s
      go true e = omega arith
      go false e = omega arith
