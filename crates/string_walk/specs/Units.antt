-- The units of a string, where they stand. 01: "Length counts bytes for a narrow string, 16-bit units for a wide one"; all words
-- are little-endian.
-- docs/FORMAT.md: Strings.
use Rattle.std.specs.Prelude.{Bool, List, ℕ, ◌+◌, ◌*◌}
use Rattle.bits.specs.Bytes.{number_at}
use Rattle.image.specs.Strings.{unit_size}

-- unit i of a string whose bytes start at a place
unfoldable pub unit_at : List ℕ → ℕ → Bool → ℕ → ℕ
unit_at s start wide i = number_at s (start + i * unit_size wide) (unit_size wide)
