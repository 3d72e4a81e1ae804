-- The file that is written of an image, and what the lent space does to it. 02, No. 1: "Also write such a file from an image"; "the writer
-- gives 1 to 6 and 13".
-- docs/FORMAT.md: Translators' files.
use Rattle.std.specs.Prelude.{List, [], ◌∷◌, ◌++◌, map, ℕ, ◌*◌, ltb, eqb, length, drop, replicate}
use Rattle.refusals.specs.Numbers as refusals
use Rattle.bits.specs.Choice.{pick, check, judge}
use Rattle.bits.specs.Outcome.{Outcome, outcome_for, roomed}
use Rattle.format.specs.declared.Layout.{Layout}
use Rattle.utf.specs.Utf16.{utf8_of}
use Rattle.po_text.specs.Written.{file_of}
use Rattle.image.specs.Sections.{strings_in}
use Rattle.image.specs.Admission.{checks}
use Rattle.po_write.specs.Strings.{written_at, written_to}

-- the pair of string i, if it is written
unfoldable pub file_at : Layout → List ℕ → ℕ → List ℕ
file_at l s i = file_of (map utf8_of (written_at l s i))

-- the file of the first n strings
unfoldable pub file_to : Layout → List ℕ → ℕ → List ℕ
file_to l s n = file_of (map utf8_of (written_to l s n))

-- the file of an image
unfoldable pub po_of : Layout → List ℕ → List ℕ
po_of l s = file_to l s (strings_in s)

-- the words of work space that are asked for: four for each string
abbrev pub words_for : List ℕ → ℕ
words_for s = 4 * strings_in s

-- 1 to 6; then 13 where the work space has fewer words
unfoldable pub write_refusal : Layout → List ℕ → ℕ → ℕ
write_refusal l s words = judge (checks l s ++ (check refusals.room (ltb words (words_for s)) ∷ []))

-- the longest file that an answer tells: a length is below 2^32
abbrev pub longest_file : ℕ
longest_file = 4294967295

-- the room that counts
abbrev pub room_for : ℕ → ℕ
room_for room = pick (ltb room longest_file) room longest_file

-- what `write_po` makes, in so many words of work space and so many bytes of room
unfoldable pub write_po : Layout → List ℕ → ℕ → ℕ → Outcome
write_po l s words room = roomed (room_for room) (outcome_for (write_refusal l s words) (po_of l s))

-- zeros over the first n words
abbrev pub cleared : ℕ → List ℕ → List ℕ
cleared n w = replicate n 0 ++ drop n w

-- the work space afterwards: as it was where it was not used, else zeros over what was asked for
unfoldable pub work_after : Layout → List ℕ → List ℕ → List ℕ
work_after l s w = pick (eqb (write_refusal l s (length w)) 0) (cleared (words_for s) w) w
