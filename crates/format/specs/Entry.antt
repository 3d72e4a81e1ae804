-- Small string entries and the overflow table. 01, Image rules: "bit 0 wide, bits 1..23 offset, bits 24..31 length"; 01, Strings.
-- docs/FORMAT.md: Strings, Overflow.
use Rattle.std.specs.Prelude.{Bool, true, false, ℕ, leb}
use Rattle.bits.specs.Choice.{pick, either}
use Rattle.format.specs.Table.{entry_wide, entry_offset, entry_length}
use Rattle.format.specs.Record.{with_value}

-- a string's width, and its place in storage; the count is of bytes for a narrow string, of 16-bit units for a wide one
pub record Place : Type 0 where
  pub wide : Bool
  pub at : ℕ
  pub count : ℕ

-- a yes as 1, a no as 0
abbrev pub bit : Bool → ℕ
bit true = 1
bit false = 0

-- the small entry of a width, an offset and a length
unfoldable pub entry : Bool → ℕ → ℕ → ℕ
entry wide offset len = with_value entry_length len (with_value entry_offset offset (with_value entry_wide (bit wide) 0))

-- "a string goes to the overflow table when its offset is 0x800000 or more or its length 255 or more"
abbrev pub far : ℕ
far = 0x800000

abbrev pub long : ℕ
long = 255

abbrev pub is_over : Place → Bool
is_over p = either (leb far p.at) (leb long p.count)

-- "Length 255 means the next overflow pair"
abbrev pub full : ℕ
full = 0xFF

-- the small entry of a string, when k strings before it went to the overflow table: "0xFF in the length and the overflow index in
-- the offset"
unfoldable pub small_word : ℕ → Place → ℕ
small_word k p = pick (is_over p) (entry p.wide k full) (entry p.wide p.at p.count)
