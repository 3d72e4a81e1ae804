-- What the functions go by that write all strings anew. docs/FORMAT.md: Packing.
use Rattle.std.specs.Prelude.{◌≡◌, List, ℕ, ◌+◌, ◌≤◌, length}
use Rattle.bits.specs.Bytes.{up4}
use Rattle.format.specs.declared.Mode.{Mode}
use Rattle.format.specs.Table.{overflow_entry}
use Rattle.format.specs.Number.{entry_at}
use Rattle.format.specs.Entry.{bit, is_over}
use Rattle.footer.specs.Finalize.{size_limit}
use Rattle.image.specs.Strings.{Str}
use Rattle.edits.specs.Packing.{gap_of, standing, packed}
use Rattle.sections.specs.declared.Places.{Places}
use Rattle.sections.specs.Places.{Laid}
use Rattle.string_edits.specs.Told.{Told, values_in, Listed}
use Rattle.string_packing.specs.declared.Packer.{Packer}
use Rattle.string_packing.specs.declared.Sizes.{Sizes}
use Rattle.string_packing.specs.Strings.{string_with, strings_with}
use Rattle.string_packing.specs.Pass.{Going, Measured}
use Rattle.string_packing_write.specs.declared.RegionPlaces.{RegionPlaces}
use Rattle.string_packing_write.specs.Region.{region_put, Roomy}

-- the pass stands behind a string t that was written: its overflow entry and its bytes are in the sums
pub record Behind (m : Mode) (p : Places) (s : List ℕ) (c : Packer) (t : Str) (r : Packer) : Type 0 where
  pub going : Going p s r
  pub string : r.old.id ≡ c.old.id + 1
  pub over : r.over ≡ c.over + bit (is_over (standing (c.at + gap_of m t.wide c.at) t))
  pub at : r.at ≡ c.at + gap_of m t.wide c.at + length t.bytes

-- a buffer that holds the first i of the strings f, as they are packed, holds the first j
abbrev pub LaidOn : Mode → RegionPlaces → (ℕ → Str) → ℕ → ℕ → List ℕ → List ℕ → Type 0
LaidOn m to f i j old new =
    (out : List ℕ) → old ≡ region_put to i (packed m f i) out → new ≡ region_put to j (packed m f j) out

-- a list of edits of an admitted image, and where all strings go in a buffer of n bytes
pub record Writable (m : Mode) (p : Places) (s : List ℕ) (edits : Told) (text ends : List ℕ) (to : RegionPlaces)
    (n : ℕ) : Type 0 where
  pub laid : Laid p s
  pub listed : Listed edits text ends
  pub roomy : Roomy to p.strings (strings_with m p.layout s (values_in edits text ends)) n

-- the same, where all strings were measured: the region ends in a buffer of n bytes
pub record Sized (m : Mode) (p : Places) (s : List ℕ) (edits : Told) (text ends : List ℕ) (z : Sizes) (n : ℕ) : Type 0 where
  pub laid : Laid p s
  pub listed : Listed edits text ends
  pub measured : Measured m p (string_with p.layout s (values_in edits text ends)) z
  pub room : up4 (entry_at p.over_at overflow_entry z.overflows + z.storage) ≤ n
  pub limit : entry_at p.over_at overflow_entry z.overflows + z.storage ≤ size_limit
