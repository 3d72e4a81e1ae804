-- Strings: their places by the walk over the small table, their bytes and units. 01, Image rules.
-- docs/FORMAT.md: Strings, Overflow.
use Rattle.std.specs.Prelude.{Bool, true, false, List, [], ◌∷◌, ℕ, zero, suc, ◌+◌, ◌*◌, eqb}
use Rattle.bits.specs.Choice.{pick}
use Rattle.bits.specs.Bytes.{bytes_at}
use Rattle.format.specs.declared.Layout.{Layout}
use Rattle.format.specs.Table.{entry_wide, entry_offset, entry_length, small_entry, overflow_entry, overflow_offset, overflow_length}
use Rattle.format.specs.Record.{value_of}
use Rattle.format.specs.Number.{number_from, entry_at, entry_in}
use Rattle.format.specs.Entry.{Place, bit, full}
use Rattle.image.specs.Sections.{small_at, over_at, storage_at}

-- ---- reading the tables: w gives the small entries, v the pairs of the overflow table

-- "overflow pair (offset, length)"
pub record Pair : Type 0 where
  pub at : ℕ
  pub count : ℕ

-- "Length 255 means the next overflow pair"
abbrev pub is_full : ℕ → Bool
is_full x = eqb (value_of entry_length x) full

abbrev pub is_wide : ℕ → Bool
is_wide x = eqb (value_of entry_wide x) 1

-- how many of the entries before i overflow: "counted in id order"
unfoldable pub over_before : (ℕ → ℕ) → ℕ → ℕ
over_before w zero = 0
over_before w (suc i) = over_before w i + bit (is_full (w i))

-- the place that entry x gives, when k entries overflow before it: its own fields, or overflow pair k
unfoldable pub place_of : (ℕ → Pair) → ℕ → ℕ → Place
place_of v k x =
    pick (is_full x)
    (record { wide = is_wide x; at = (v k).at; count = (v k).count })
    (record { wide = is_wide x; at = value_of entry_offset x; count = value_of entry_length x })

-- the place of string i
unfoldable pub locate : (ℕ → ℕ) → (ℕ → Pair) → ℕ → Place
locate w v i = place_of v (over_before w i) (w i)

-- ---- in an image

-- small entry i
unfoldable pub small_in : Layout → List ℕ → ℕ → ℕ
small_in l s i = entry_in (small_at l s) small_entry s i

-- pair k of the overflow table that starts at p
abbrev pub pair_in : ℕ → List ℕ → ℕ → Pair
pair_in p s k =
    let pair = entry_at p overflow_entry k in
    record { at = number_from pair overflow_offset s; count = number_from pair overflow_length s }

unfoldable pub over_in : Layout → List ℕ → ℕ → Pair
over_in l s k = pair_in (over_at l s) s k

unfoldable pub place_at : Layout → List ℕ → ℕ → Place
place_at l s i = locate (small_in l s) (over_in l s) i

-- "Length counts bytes for a narrow string, 16-bit units for a wide one"
abbrev pub unit_size : Bool → ℕ
unit_size true = 2
unit_size false = 1

abbrev pub size_of : Place → ℕ
size_of p = p.count * unit_size p.wide

-- a string: its width and its bytes
pub record Str : Type 0 where
  pub wide : Bool
  pub bytes : List ℕ

-- string i of an image
unfoldable pub string_of : Layout → List ℕ → ℕ → Str
string_of l s i =
    let p = place_at l s i in
    record { wide = p.wide; bytes = bytes_at s (storage_at l s + p.at) (size_of p) }

-- the 16-bit units of bytes, low byte first
unfoldable pub pairs_of : List ℕ → List ℕ
pairs_of [] = []
pairs_of (a ∷ []) = []
pairs_of (a ∷ b ∷ bs) = (a + b * 256) ∷ pairs_of bs

-- the UTF-16 units of a string: a narrow byte is a unit
unfoldable pub units_of : Str → List ℕ
units_of t = pick t.wide (pairs_of t.bytes) t.bytes
