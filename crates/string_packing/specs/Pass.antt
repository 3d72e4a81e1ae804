-- The pass over the strings that a rebuild measures and writes by: where it stands, and what one turn of it promises.
-- docs/FORMAT.md: Packing.
use Rattle.std.specs.Prelude.{◌≡◌, ◌≢◌, List, ℕ, ◌+◌, ◌*◌, ◌≤◌, ◌<◌, eqb}
use Rattle.std.proofs.Math.Option.{none, some}
use Rattle.format.specs.declared.Mode.{Mode}
use Rattle.format.specs.Entry.{bit, is_over}
use Rattle.image.specs.Strings.{Str, size_of}
use Rattle.sections.specs.declared.Places.{Places}
use Rattle.sections.specs.Places.{Laid}
use Rattle.string_tables.specs.Strings.{as_place}
use Rattle.string_walk.specs.Places.{Stands, CursorOf}
use Rattle.string_edits.specs.Values.{Values}
use Rattle.string_packing.specs.declared.Shape.{Shape}
use Rattle.string_packing.specs.declared.Stretch.{Stretch}
use Rattle.string_packing.specs.declared.Packer.{Packer}
use Rattle.string_packing.specs.declared.Turn.{Turn}
use Rattle.string_packing.specs.declared.Sizes.{Sizes}
use Rattle.string_packing.specs.Strings.{as_string, Shaped, place_with, Sums}

-- a string takes fewer bytes: a value has fewer than 2^32 bytes, and so no more units; two bytes for each, and one before it
abbrev pub string_most : ℕ
string_most = 8589934592

-- a pass stands behind the strings before it, and its sums are exact
pub record Going (p : Places) (s : List ℕ) (c : Packer) : Type 0 where
  pub old : CursorOf p s c.old
  pub few : c.over ≤ c.old.id
  pub low : c.at ≤ c.old.id * string_most

-- the strings f before the cursor are packed: the overflow entries that they get, and their bytes
pub record Reached (m : Mode) (p : Places) (s : List ℕ) (f : ℕ → Str) (c : Packer) : Type 0 where
  pub going : Going p s c
  pub sums : Sums m f c.old.id c.at c.over

-- a string of an admitted image is next: what its turn goes by
pub record InTurn (p : Places) (s : List ℕ) (x : Shape) (c : Packer) : Type 0 where
  pub laid : Laid p s
  pub known : c.old.id < p.strings
  pub going : Going p s c
  pub small : x.count < 4294967296

-- one turn: the string as it stands in the image, where it goes, and what is packed with it
pub record Turned (m : Mode) (p : Places) (s : List ℕ) (id : ℕ) (x : Shape) (c : Packer) (r : Turn) : Type 0 where
  pub old : Stands p s c.old.id r.old
  pub new : as_place r.new ≡ place_with m (eqb c.old.id id) x (as_place r.old.place) c.at
  pub count : r.new.count < 4294967296
  pub string : r.next.old.id ≡ c.old.id + 1
  pub over : r.next.over ≡ c.over + bit (is_over (as_place r.new))
  pub at : r.next.at ≡ r.new.at + size_of (as_place r.new)
  pub going : Going p s r.next

-- strings from `from` on, before `end`: of these only `id` may get a value, and its shape is at hand
pub record StretchOf (v : Values) (value : List ℕ) (from strings : ℕ) (r : Stretch) : Type 0 where
  pub more : from < r.end
  pub most : r.end ≤ strings
  pub others : (i : ℕ) → from ≤ i → i < r.end → i ≢ r.next.id → v i ≡ none
  pub own : r.next.id < r.end → v r.next.id ≡ some value
  pub shaped : Shaped r.new (as_string value)
  pub small : r.new.count < 4294967296

-- the sizes of all strings, and that their sums stay small
pub record Measured (m : Mode) (p : Places) (f : ℕ → Str) (z : Sizes) : Type 0 where
  pub sums : Sums m f p.strings z.storage z.overflows
  pub few : z.overflows ≤ p.strings
  pub low : z.storage ≤ p.strings * string_most
