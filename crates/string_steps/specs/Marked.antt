-- What strings get by marks: what the code goes by.
-- docs/FORMAT.md: Translators' files.
use Rattle.std.specs.Prelude.{◌≡◌, true, List, ℕ, length}
use Rattle.sections.specs.declared.Places.{Places}
use Rattle.sections.specs.Places.{Laid}
use Rattle.utf.specs.Utf8.{is_utf8}
use Rattle.string_edits.specs.Lists.{value_in}
use Rattle.string_edits.specs.Told.{told, Tells, Listed}
use Rattle.string_edits.specs.declared.Form.TheVariants.{Marks}

-- an admitted image with a mark for each of its strings, and values that stand in a text and are UTF-8
pub record Marked (p : Places) (s marks text ends : List ℕ) : Type 0 where
  pub laid : Laid p s
  pub listed : Listed (told Marks marks) text ends
  pub many : length marks ≡ p.strings
  pub valid : (id j : ℕ) → Tells (told Marks marks) id j → is_utf8 (value_in text ends j) ≡ true
