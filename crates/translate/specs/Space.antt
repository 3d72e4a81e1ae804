-- The space that is lent for work: how much a file and an image ask for, and what it holds afterwards. 02, No. 1, as docs/DECISIONS.md
-- reads it: too short is 13, right behind 1 to 6, and nothing of it is written; else what was asked for ends as zeros, whatever the answer.
-- docs/FORMAT.md: Translators' files.
use Rattle.std.specs.Prelude.{◌≡◌, Bool, List, ◌++◌, ℕ, ◌+◌, ◌*◌, ◌/◌, ◌<◌, leb, ltb, eqb, length, drop, replicate}
use Rattle.refusals.specs.Numbers as refusals
use Rattle.bits.specs.Choice.{pick, both}
use Rattle.bits.specs.Outcome.{Outcome, refused}
use Rattle.format.specs.declared.Layout.{Layout}
use Rattle.format.specs.declared.Mode.{Mode}
use Rattle.image.specs.Sections.{strings_in}
use Rattle.image.specs.Admission.{refusal}
use Rattle.translate.specs.Translate.{translated}

-- how many bytes or words of each space
pub record Space : Type 0 where
  pub text : ℕ
  pub ends : ℕ
  pub work : ℕ

abbrev pub lent : List ℕ → List ℕ → List ℕ → Space
lent text ends work = record { text = length text; ends = length ends; work = length work }

-- a value takes 8 bytes of a file at least: one word for each that there can be, and one
abbrev pub words_for : ℕ → ℕ
words_for n = n / 8 + 1

-- for a file of so many bytes and an image of so many strings: the values, where each ends; three words for each that there can be, and
-- one for each string
abbrev pub asked_for : ℕ → ℕ → Space
asked_for file strings = record { text = file; ends = words_for file; work = words_for file * 3 + strings }

-- what is lent is enough. Words have 32 bits: no space is enough for a file whose places they do not hold
unfoldable pub is_enough : ℕ → ℕ → Space → Bool
is_enough file strings space =
    both (ltb file 0x100000000)
    (both (leb (asked_for file strings).text space.text)
    (both (leb (asked_for file strings).ends space.ends) (leb (asked_for file strings).work space.work)))

-- the image is admitted, and what is lent is enough: only then a file is read
unfoldable pub is_read : Layout → List ℕ → List ℕ → Space → Bool
is_read l s file space = both (eqb (refusal l s) 0) (is_enough (length file) (strings_in s) space)

-- what `read_po` makes of an image in a buffer of `room` bytes, with the space that is lent
unfoldable pub read_po : Mode → Layout → List ℕ → ℕ → List ℕ → Space → Outcome
read_po m l s room file space =
    pick (is_read l s file space) (translated m l s room file)
    (pick (eqb (refusal l s) 0) (refused refusals.room) (refused (refusal l s)))

-- a space afterwards: where it is used, zeros over the n that were asked for
abbrev pub space_after : Bool → ℕ → List ℕ → List ℕ
space_after used n old = pick used (replicate n 0 ++ drop n old) old

-- what is promised of the three, for a file of so many bytes and an image of so many strings: text, ends and work, before and afterwards
pub record LeavesSpace (used : Bool) (file strings : ℕ) (text text' ends ends' work work' : List ℕ) : Type 0 where
  pub of_text : text' ≡ space_after used (asked_for file strings).text text
  pub of_ends : ends' ≡ space_after used (asked_for file strings).ends ends
  pub of_work : work' ≡ space_after used (asked_for file strings).work work

-- ---- what the code goes by

-- just the space that is asked for
pub record Lent (strings : ℕ) (file : List ℕ) (text ends work : ℕ) : Type 0 where
  pub low : length file < 0x100000000
  pub for_text : text ≡ length file
  pub for_ends : ends ≡ words_for (length file)
  pub for_work : work ≡ words_for (length file) * 3 + strings
