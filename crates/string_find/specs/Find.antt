-- The string that a value finds. 01, refusal 14: "no string has the old value's UTF-16 units; else the lowest such id is patched".
-- docs/FORMAT.md: String patches.
use Rattle.std.specs.Prelude.{List, [], ◌∷◌, Bool, ℕ, zero, suc}
use Rattle.bits.specs.Choice.{pick}
use Rattle.format.specs.declared.Layout.{Layout}
use Rattle.footer.specs.Footer.{same}
use Rattle.image.specs.Sections.{strings_in}
use Rattle.image.specs.Strings.{string_of, units_of}
use Rattle.string_walk.specs.Units.{unit_at}

-- the first of the ids i, i + 1, .. below i + n whose string has these units, else i + n
unfoldable pub find_from : Layout → List ℕ → List ℕ → ℕ → ℕ → ℕ
find_from l s units i zero = i
find_from l s units i (suc n) = pick (same (units_of (string_of l s i)) units) i (find_from l s units (suc i) n)

-- the lowest id with these units, else the string count
unfoldable pub find_id : Layout → List ℕ → List ℕ → ℕ
find_id l s units = find_from l s units 0 (strings_in s)

-- ---- units where they stand

-- the n units from unit j on, of a string whose bytes start at a place
unfoldable pub units_at : List ℕ → ℕ → Bool → ℕ → ℕ → List ℕ
units_at s start wide j zero = []
units_at s start wide j (suc n) = unit_at s start wide j ∷ units_at s start wide (suc j) n
