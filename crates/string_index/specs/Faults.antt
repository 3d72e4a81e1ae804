-- When filling an index and looking up in it are refused, in propositions; the laws `filled_exactly` and `looked_up_exactly` say that each
-- is refused with n exactly where fault n is there and none before it. 02, No. 13: "Refusals".
-- docs/FORMAT.md: Refusals, Order, Index.
use Rattle.std.specs.Prelude.{List, ℕ, ◌≤◌, ◌<◌}
use Rattle.refusals.specs.Numbers as refusals
use Rattle.format.specs.declared.Layout.{Layout}
use Rattle.image.specs.Sections.{strings_in}
use Rattle.image.specs.Faults.{Fault}
use Rattle.string_index.specs.Index.{words_for}

-- filling, in so many words
pub data FillFault (l : Layout) (s : List ℕ) (words : ℕ) : ℕ → Type 0 where
  -- 1 to 6: the image is refused
  bad_image : (n : ℕ) → Fault l s n → FillFault l s words n
  -- "13 when the index is shorter than three words per string"
  too_short : words < words_for (strings_in s) → FillFault l s words refusals.room

-- looking string i up in so many words, for n strings
pub data LookFault (words n i : ℕ) : ℕ → Type 0 where
  -- "7 for an id not below the count"
  no_string : n ≤ i → LookFault words n i refusals.id
  -- "then 13 likewise"
  few_words : words < words_for n → LookFault words n i refusals.room
