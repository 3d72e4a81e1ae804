-- Values as a file has them, worked: "a", and one with each escape, a letter of two bytes and a character of two units.
use mathlib.Core.Path.{◌≡◌, refl}
use mathlib.Core.Bool.{true, false}
use mathlib.Core.List.{List, [], ◌∷◌, map}
use Prim.Native.Nat.{ℕ}
use Rattle.utf.specs.Utf16.{bytes_of_point, is_utf16_from, utf8_of_from, utf8_of}
use Rattle.po_text.specs.Written.{escape, escaped, writable, entry_of, file_of}
use Rattle.po_strings.specs.Texts.{is_held}

-- é, newline, tab, `"`, `\`, U+1F600
abbrev units : List ℕ
units = 0xE9 ∷ 10 ∷ 9 ∷ 34 ∷ 92 ∷ 0xD83D ∷ 0xDE00 ∷ []

-- `msgid "a"`, `msgstr ""`, an empty line, `msgid "é\n\t\"\\😀"`, `msgstr ""`, an empty line
pub file_worked : file_of (map utf8_of ((97 ∷ []) ∷ units ∷ []))
    ≡ 109 ∷ 115 ∷ 103 ∷ 105 ∷ 100 ∷ 32 ∷ 34 ∷ 97 ∷ 34 ∷ 10
    ∷ 109 ∷ 115 ∷ 103 ∷ 115 ∷ 116 ∷ 114 ∷ 32 ∷ 34 ∷ 34 ∷ 10 ∷ 10
    ∷ 109 ∷ 115 ∷ 103 ∷ 105 ∷ 100 ∷ 32 ∷ 34 ∷ 0xC3 ∷ 0xA9 ∷ 92 ∷ 110 ∷ 92 ∷ 116 ∷ 92 ∷ 34
    ∷ 92 ∷ 92 ∷ 0xF0 ∷ 0x9F ∷ 0x98 ∷ 0x80 ∷ 34 ∷ 10
    ∷ 109 ∷ 115 ∷ 103 ∷ 115 ∷ 116 ∷ 114 ∷ 32 ∷ 34 ∷ 34 ∷ 10 ∷ 10 ∷ []
unfolding file_of entry_of escaped escape utf8_of_from bytes_of_point
file_worked = refl

-- it is a value that a file has; an empty one, one with a unit 31 and one that ends in half a character are not
pub held_worked : (is_held units ≡ true) × (is_held [] ≡ false) × (is_held (97 ∷ 31 ∷ []) ≡ false)
    × (is_held (97 ∷ 0xD83D ∷ []) ≡ false)
unfolding is_held is_utf16_from writable
held_worked = (refl, refl, refl, refl)
