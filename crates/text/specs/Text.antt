-- Numbers and lines as text. 01, Programs: "numbers are decimal"; "units as four lower-case hex digits each"; "Every printed line
-- ends with a line feed".
-- docs/FORMAT.md: Listing.
use Rattle.std.specs.Prelude.{◌≡◌, List, [], ◌∷◌, ◌++◌, ℕ, zero, suc, ◌+◌, ◌/◌, ◌%◌, ltb, length}
use Rattle.std.proofs.lemmas.List.Edits.{sets}
use Rattle.bits.specs.Choice.{pick}

-- the digits '0' to '9', then 'a' to 'f'
abbrev pub digit : ℕ → ℕ
digit d = pick (ltb d 10) (48 + d) (87 + d)

-- the decimal digits of a number below 10^n, highest first
unfoldable pub decimal_of : ℕ → ℕ → List ℕ
decimal_of zero x = []
decimal_of (suc n) x = pick (ltb x 10) (digit x ∷ []) (decimal_of n (x / 10) ++ (digit (x % 10) ∷ []))

-- a number in decimal: it never has more digits than itself and 1
unfoldable pub decimal : ℕ → List ℕ
decimal x = decimal_of (suc x) x

-- the four hex digits of a 16-bit unit
unfoldable pub hex4 : ℕ → List ℕ
hex4 u = digit (u / 16 / 16 / 16 % 16) ∷ digit (u / 16 / 16 % 16) ∷ digit (u / 16 % 16) ∷ digit (u % 16) ∷ []

-- the digits of units, joined
unfoldable pub hexes : List ℕ → List ℕ
hexes [] = []
hexes (u ∷ us) = hex4 u ++ hexes us

-- the eight hex digits of a 32-bit word: those of its high half, then those of its low half
unfoldable pub hex8 : ℕ → List ℕ
hex8 w = hex4 (w / 65536) ++ hex4 (w % 65536)

-- ---- words and lines

abbrev pub space : ℕ
space = 32

abbrev pub line_feed : ℕ
line_feed = 10

-- words, each with a space behind it
unfoldable pub spaced : List (List ℕ) → List ℕ
spaced [] = []
spaced (w ∷ ws) = w ++ (space ∷ spaced ws)

-- a line: words, a last one, a line feed
abbrev pub line : List (List ℕ) → List ℕ → List ℕ
line ws w = spaced ws ++ (w ++ (line_feed ∷ []))

-- ---- what a writer promises: the text stands at a place of the buffer, and the answer is the place behind it

abbrev pub Wrote : List ℕ → ℕ → List ℕ → ℕ → List ℕ → Type 0
Wrote old at text r new = (r ≡ at + length text) × (new ≡ sets old at text)
