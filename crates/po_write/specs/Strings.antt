-- Which strings of an image a translators' file is written of. 02, No. 1: "one pair per plain string whose value is valid UTF-16 and not
-- empty, in id order, equal values once".
-- docs/FORMAT.md: Translators' files.
use Rattle.std.specs.Prelude.{Bool, not, List, [], ◌∷◌, ◌++◌, ℕ, zero, suc}
use Rattle.bits.specs.Choice.{pick, both, either, all_below}
use Rattle.format.specs.declared.Layout.{Layout}
use Rattle.footer.specs.Footer.{same}
use Rattle.image.specs.Strings.{string_of, units_of}
use Rattle.image.specs.Kinds.{is_identifier}
use Rattle.po_strings.specs.Texts.{is_held}

-- the value of string i: its UTF-16 units, whatever its width
unfoldable pub value_of : Layout → List ℕ → ℕ → List ℕ
value_of l s i = units_of (string_of l s i)

-- string i is plain, and its value is one that a file has
unfoldable pub is_offered : Layout → List ℕ → ℕ → Bool
is_offered l s i = both (not (is_identifier l s i)) (is_held (value_of l s i))

-- no plain string of a lower id has its value
unfoldable pub is_first : Layout → List ℕ → ℕ → Bool
is_first l s i = all_below i (λ j. either (is_identifier l s j) (not (same (value_of l s j) (value_of l s i))))

-- string i is written
unfoldable pub is_written : Layout → List ℕ → ℕ → Bool
is_written l s i = both (is_offered l s i) (is_first l s i)

-- the value of string i, if it is written
unfoldable pub written_at : Layout → List ℕ → ℕ → List (List ℕ)
written_at l s i = pick (is_written l s i) (value_of l s i ∷ []) []

-- the values that are written of the first n strings, "in id order"
unfoldable pub written_to : Layout → List ℕ → ℕ → List (List ℕ)
written_to l s zero = []
written_to l s (suc n) = written_to l s n ++ written_at l s n
