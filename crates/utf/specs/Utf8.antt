-- Well-formed UTF-8 and its UTF-16 units, one byte at a time. The Unicode Standard, Table 3-7, Well-Formed UTF-8 Byte Sequences,
-- and Table 3-5, UTF-16 Bit Distribution.
-- docs/FORMAT.md: Values.
use Rattle.std.specs.Prelude.{◌≡◌, Bool, true, false, List, [], ◌∷◌, ◌++◌, ℕ, ◌+◌, ◌-◌, ◌*◌, ◌/◌, ◌%◌, ◌^◌, ◌≤◌, leb, ltb, eqb}
use Rattle.std.specs.Prelude.{length, drop}
use Rattle.bits.specs.Choice.{pick, both}
use Rattle.bits.specs.Bytes.{bytes_of}
use Rattle.utf.specs.declared.Reading.{Reading}
use Rattle.utf.specs.declared.Units.{Units}
use Rattle.utf.specs.declared.Units.TheVariants.{None, One, Two}

-- `Reading` is where a reader stands: `need` bytes of a code point are to come, the next of them from `lo` to `hi`; `point` is what
-- was read of it; not `ok` after a wrong byte

-- n further bytes of the common range 80..BF
abbrev pub further : ℕ → ℕ → Reading
further n point = record { ok = true; need = n; point = point; lo = 0x80; hi = 0xBF }

-- between two code points
abbrev pub between : Reading
between = further 0 0

-- a byte that no row of the table has in its place
abbrev pub wrong : Reading
wrong = record { ok = false; need = 0; point = 0; lo = 0x80; hi = 0xBF }

-- the first byte of a code point, row by row: 00..7F; C2..DF; E0 (then A0..BF), E1..EC, ED (then 80..9F), EE..EF; F0 (then 90..BF),
-- F1..F3, F4 (then 80..8F)
unfoldable pub opens : ℕ → Reading
opens b =
    pick (ltb b 0x80) (further 0 b)
    (pick (ltb b 0xC2) wrong
    (pick (ltb b 0xE0) (further 1 (b - 0xC0))
    (pick (ltb b 0xF0) (record
    { ok = true; need = 2; point = b - 0xE0; lo = pick (eqb b 0xE0) 0xA0 0x80; hi = pick (eqb b 0xED) 0x9F 0xBF })
    (pick (ltb b 0xF5) (record
    { ok = true; need = 3; point = b - 0xF0; lo = pick (eqb b 0xF0) 0x90 0x80; hi = pick (eqb b 0xF4) 0x8F 0xBF }) wrong))))

-- a further byte: 6 bits of the code point
abbrev pub goes_on : Reading → ℕ → Reading
goes_on r b = pick (both (leb r.lo b) (leb b r.hi)) (further (r.need - 1) (r.point * 64 + (b - 0x80))) wrong

unfoldable pub next_byte : Reading → ℕ → Reading
next_byte r b = pick r.ok (pick (eqb r.need 0) (opens b) (goes_on r b)) wrong

-- where the reader stands after some bytes
unfoldable pub reading_of : Reading → List ℕ → Reading
reading_of r [] = r
reading_of r (b ∷ bs) = reading_of (next_byte r b) bs

-- well-formed: no wrong byte, and no code point cut short
unfoldable pub is_utf8 : List ℕ → Bool
is_utf8 bs = both (reading_of between bs).ok (eqb (reading_of between bs).need 0)

-- the UTF-16 units of a code point: itself, or a surrogate pair
unfoldable pub units_of_point : ℕ → List ℕ
units_of_point c = pick (ltb c 0x10000) (c ∷ []) ((0xD800 + (c - 0x10000) / 0x400) ∷ (0xDC00 + (c - 0x10000) % 0x400) ∷ [])

-- the units that a byte completes
abbrev pub completes : Reading → List ℕ
completes r = pick (both r.ok (eqb r.need 0)) (units_of_point r.point) []

unfoldable pub units_from : Reading → List ℕ → List ℕ
units_from r [] = []
units_from r (b ∷ bs) = completes (next_byte r b) ++ units_from (next_byte r b) bs

-- the UTF-16 units of UTF-8 bytes
unfoldable pub utf16 : List ℕ → List ℕ
utf16 bs = units_from between bs

-- the bytes of units, low byte first
unfoldable pub unit_bytes : List ℕ → List ℕ
unit_bytes [] = []
unit_bytes (u ∷ us) = bytes_of 2 u ++ unit_bytes us

-- ---- what the code needs of a reading: the code point stays below 2^21, and a further byte is from 80 to BF

pub record Small (r : Reading) : Type 0 where
  pub few : r.need ≤ 3
  pub low : (r.point + 1) * 64 ^ r.need ≤ 2097152
  pub from : 128 ≤ r.lo
  pub to : r.hi ≤ 191

-- no wrong byte was read, and no code point is begun
abbrev pub is_well : Reading → Bool
is_well r = both r.ok (eqb r.need 0)

-- what is left from `end` on is judged, by a given reading, as what is left from `from` on
pub record GoesOn (s : List ℕ) (from : ℕ) (r : Reading) (end : ℕ) : Type 0 where
  pub onward : from ≤ end
  pub within : end ≤ length s
  pub same : is_well (reading_of r (drop end s)) ≡ is_well (reading_of r (drop from s))

-- the same by each reading that is between two code points
pub record Skipped (s : List ℕ) (from end : ℕ) : Type 0 where
  pub onward : from ≤ end
  pub within : end ≤ length s
  pub same : (r : Reading) → r.ok ≡ true → r.need ≡ 0 → is_well (reading_of r (drop end s)) ≡ is_well (reading_of r (drop from s))

-- the units of the code's answer
abbrev pub list_of : Units → List ℕ
list_of None = []
list_of (One u) = u ∷ []
list_of (Two u v) = u ∷ v ∷ []
