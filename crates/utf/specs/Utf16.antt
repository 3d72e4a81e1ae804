-- Valid UTF-16 and its UTF-8 bytes, one unit at a time. The Unicode Standard, D91, UTF-16 encoding form, and Table 3-6, UTF-8 Bit
-- Distribution. 02, No. 1: "plain string whose value is valid UTF-16".
-- docs/FORMAT.md: Values.
use Rattle.std.specs.Prelude.{Bool, true, false, List, [], ◌∷◌, ◌++◌, ℕ, ◌+◌, ◌-◌, ◌*◌, ◌/◌, ◌%◌, leb, ltb}
use Rattle.bits.specs.Choice.{pick, both}

-- the bytes of a code point: itself, or a first byte and six bits in each further one
unfoldable pub bytes_of_point : ℕ → List ℕ
bytes_of_point c =
    pick (ltb c 0x80) (c ∷ [])
    (pick (ltb c 0x800) ((0xC0 + c / 64) ∷ (0x80 + c % 64) ∷ [])
    (pick (ltb c 0x10000) ((0xE0 + c / 64 / 64) ∷ (0x80 + c / 64 % 64) ∷ (0x80 + c % 64) ∷ [])
    ((0xF0 + c / 64 / 64 / 64) ∷ (0x80 + c / 64 / 64 % 64) ∷ (0x80 + c / 64 % 64) ∷ (0x80 + c % 64) ∷ [])))

-- the first unit of a surrogate pair
abbrev pub is_high : ℕ → Bool
is_high u = both (leb 0xD800 u) (ltb u 0xDC00)

-- the second one
abbrev pub is_low : ℕ → Bool
is_low u = both (leb 0xDC00 u) (ltb u 0xE000)

-- the code point of the two
abbrev pub point_of : ℕ → ℕ → ℕ
point_of h u = 0x10000 + (h - 0xD800) * 0x400 + (u - 0xDC00)

-- whether a first unit waits for its second one
pub data Waiting : Type 0 where
  none : Waiting
  high : ℕ → Waiting

-- valid from there on: no surrogate stands alone
unfoldable pub is_utf16_from : Waiting → List ℕ → Bool
is_utf16_from none [] = true
is_utf16_from (high h) [] = false
is_utf16_from none (u ∷ us) = pick (is_high u) (is_utf16_from (high u) us) (pick (is_low u) false (is_utf16_from none us))
is_utf16_from (high h) (u ∷ us) = pick (is_low u) (is_utf16_from none us) false

-- units that are valid UTF-16
abbrev pub is_utf16 : List ℕ → Bool
is_utf16 us = is_utf16_from none us

-- the bytes from there on
unfoldable pub utf8_of_from : Waiting → List ℕ → List ℕ
utf8_of_from w [] = []
utf8_of_from none (u ∷ us) = pick (is_high u) (utf8_of_from (high u) us) (bytes_of_point u ++ utf8_of_from none us)
utf8_of_from (high h) (u ∷ us) = bytes_of_point (point_of h u) ++ utf8_of_from none us

-- the UTF-8 bytes of valid UTF-16
abbrev pub utf8_of : List ℕ → List ℕ
utf8_of us = utf8_of_from none us
