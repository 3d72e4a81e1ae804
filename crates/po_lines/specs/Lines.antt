-- A file as lines. 02, No. 1: "Each line ends with a line feed, the last too".
-- docs/FORMAT.md: Translators' files.
use Rattle.std.specs.Prelude.{Bool, List, [], ◌∷◌, ℕ, eqb}
use Rattle.bits.specs.Choice.{pick}
use Rattle.text.specs.Text.{line_feed}

-- one more byte in front of the first line
abbrev pub in_front : ℕ → List (List ℕ) → List (List ℕ)
in_front b [] = (b ∷ []) ∷ []
in_front b (l ∷ ls) = (b ∷ l) ∷ ls

-- the lines, without their line feeds; bytes behind the last line feed are a line like any other
unfoldable pub lines_of : List ℕ → List (List ℕ)
lines_of [] = []
lines_of (b ∷ bs) = pick (eqb b line_feed) ([] ∷ lines_of bs) (in_front b (lines_of bs))

-- the last of some bytes, and b where there are none
unfoldable pub last_of : ℕ → List ℕ → ℕ
last_of b [] = b
last_of b (c ∷ cs) = last_of c cs

-- "the last too": the last byte is a line feed; a file of no bytes has no line
abbrev pub is_ended : List ℕ → Bool
is_ended s = eqb (last_of line_feed s) line_feed
