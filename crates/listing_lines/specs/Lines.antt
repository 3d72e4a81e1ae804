-- The lines that the listing program prints. 01, Programs.
-- docs/FORMAT.md: Listing.
use Rattle.std.specs.Prelude.{Bool, List, [], ◌∷◌, ◌++◌, ℕ, zero, suc, length, None, Option, Some}
use Rattle.bits.specs.Choice.{pick}
use Rattle.string_walk.specs.Units.{unit_at}
use Rattle.text.specs.Text.{space, line_feed, decimal, hexes, hex8, line}

-- a word of one letter
abbrev pub letter : ℕ → List ℕ
letter a = a ∷ []

-- "A refusal prints `refused N`"
unfoldable pub refused_line : ℕ → List ℕ
refused_line n = line ((0x72 ∷ 0x65 ∷ 0x66 ∷ 0x75 ∷ 0x73 ∷ 0x65 ∷ 0x64 ∷ []) ∷ []) (decimal n)

-- "Line 1: length, strings, functions", after `image`
unfoldable pub counts_line : ℕ → ℕ → ℕ → List ℕ
counts_line len strings functions =
    line ((0x69 ∷ 0x6D ∷ 0x61 ∷ 0x67 ∷ 0x65 ∷ []) ∷ decimal len ∷ decimal strings ∷ []) (decimal functions)

-- "`s`: id, n or w, s or i (identifier), unit count", then the units
abbrev pub string_words : ℕ → Bool → Bool → ℕ → List (List ℕ)
string_words id wide identifier count =
    letter 0x73 ∷ decimal id ∷ letter (pick wide 0x77 0x6E) ∷ letter (pick identifier 0x69 0x73) ∷ decimal count ∷ []

-- "units as four lower-case hex digits each, joined, `-` if none"
abbrev pub units_word : List ℕ → List ℕ
units_word [] = letter 0x2D
units_word (u ∷ us) = hexes (u ∷ us)

-- 02, No. 5: "a last field: the stored hash slot in eight hex digits, or `-` for a plain string"
abbrev pub slot_word : Option ℕ → List ℕ
slot_word (Some h) = hex8 h
slot_word None = letter 0x2D

-- the line of a string by its units and its slot
unfoldable pub string_line : ℕ → Bool → Bool → List ℕ → Option ℕ → List ℕ
string_line id wide identifier units slot = line (string_words id wide identifier (length units) ++ (units_word units ∷ []))
    (slot_word slot)

-- what stands between so many units and the last field: the dash in place of none, and a space
abbrev pub gap : ℕ → List ℕ
gap zero = 0x2D ∷ space ∷ []
gap (suc n) = space ∷ []

-- what stands behind so many units
abbrev pub closing : ℕ → Option ℕ → List ℕ
closing n slot = gap n ++ (slot_word slot ++ (line_feed ∷ []))

-- "`f`: id, o overflowed or p plain, body start, size"
unfoldable pub function_line : ℕ → Bool → ℕ → ℕ → List ℕ
function_line id large start size =
    line (letter 0x66 ∷ decimal id ∷ letter (pick large 0x6F 0x70) ∷ decimal start ∷ []) (decimal size)

-- ---- n units from unit i on of a string whose bytes start at a place

unfoldable pub units_shown : List ℕ → ℕ → Bool → ℕ → ℕ → List ℕ
units_shown s start wide i zero = []
units_shown s start wide i (suc n) = unit_at s start wide i ∷ units_shown s start wide (suc i) n
