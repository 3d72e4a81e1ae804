-- Strings of an image as text: their units where they stand, and their code points one by one. 02, No. 1: "one pair per plain string whose
-- value is valid UTF-16 and not empty"; "Units below 32 other than newline and tab can't be written, so those strings are passed over".
-- docs/FORMAT.md: Translators' files.
use Rattle.std.specs.Prelude.{◌≡◌, Option, Some, None, ◌⊎◌, Bool, false, List, [], ◌∷◌, ◌++◌, ℕ, ◌+◌, ◌-◌, ◌*◌, ◌≤◌, ◌<◌, ltb, length}
use Rattle.bits.specs.Choice.{both}
use Rattle.utf.specs.Utf16.{bytes_of_point, is_utf16, utf8_of}
use Rattle.po_text.specs.Written.{can_write, writable}
use Rattle.image.specs.Strings.{unit_size}
use Rattle.string_walk.specs.declared.StringRecord.{StringRecord}
use Rattle.string_find.specs.Find.{units_at}
use Rattle.po_strings.specs.declared.Text.{Text}
use Rattle.po_strings.specs.declared.Point.{Point}

-- a value that a file has: not empty, valid UTF-16, and each unit can be written
unfoldable pub is_held : List ℕ → Bool
is_held [] = false
is_held (u ∷ us) = both (is_utf16 (u ∷ us)) (writable (u ∷ us))

-- ---- where they stand

-- those of a string that was found
abbrev pub text_of : StringRecord → Text
text_of r = record { start = r.start; wide = r.place.wide; count = r.place.count }

-- the units of a text lie in the image
abbrev pub Inside : List ℕ → Text → Type 0
Inside s t = t.start + t.count * unit_size t.wide ≤ length s

-- the units of a text
abbrev pub units_in : List ℕ → Text → List ℕ
units_in s t = units_at s t.start t.wide 0 t.count

-- those from unit i on
abbrev pub units_left : List ℕ → Text → ℕ → List ℕ
units_left s t i = units_at s t.start t.wide i (t.count - i)

-- ---- code points

-- no code point: what is told of a surrogate that stands alone
abbrev pub no_point : ℕ
no_point = 0x110000

-- c is the first code point of some units, and others are left behind it
pub record FirstPoint (us left : List ℕ) (c : ℕ) : Type 0 where
  pub valid : is_utf16 us ≡ both (ltb c no_point) (is_utf16 left)
  pub bytes : c < no_point → utf8_of us ≡ bytes_of_point c ++ utf8_of left
  pub written : writable us ≡ both (can_write c) (writable left)

-- what is told of unit i: the first code point from there on, and what is behind it; or that there is none, since the text ends there or
-- since a surrogate stands alone
abbrev pub NextPoint : List ℕ → Text → ℕ → Option Point → Type 0
NextPoint s t i (Some p) =
    FirstPoint (units_left s t i) (units_left s t p.next) p.value × (p.value < no_point) × (i < p.next) × (p.next ≤ t.count)
NextPoint s t i None = (t.count ≤ i) ⊎ (is_utf16 (units_left s t i) ≡ false)
