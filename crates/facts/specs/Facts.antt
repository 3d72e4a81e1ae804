-- What is known of an image, and of a string of it, as numbers: for callers that tell people about them.
-- docs/FORMAT.md: Exports.
use Rattle.std.specs.Prelude.{Bool, List, [], ◌∷◌, ◌++◌, ℕ, zero, suc, ◌+◌, ◌-◌, ◌/◌, ltb, eqb, length}
use Rattle.bits.specs.Bytes.{word_at}
use Rattle.bits.specs.Choice.{pick}
use Rattle.bits.specs.Outcome.{Outcome, outcome_for}
use Rattle.format.specs.declared.Layout.{Layout}
use Rattle.format.specs.Table as table
use Rattle.format.specs.Entry.{Place}
use Rattle.footer.specs.Footer.{footer_length, verified}
use Rattle.image.specs.Sections.{functions_in, kinds_in, identifiers_in, strings_in, overflows_in, storage_in, record_at, kinds_at}
use Rattle.image.specs.Sections.{hashes_at, small_at, over_at, storage_at, tail_at}
use Rattle.image.specs.Strings.{place_at, size_of}
use Rattle.image.specs.Kinds.{is_identifier}
use Rattle.image.specs.Admission.{refusal}
use Rattle.string_walk.specs.declared.Counts.{Counts}
use Rattle.string_walk.specs.Walk.{visits}
use Rattle.reader.specs.Reading.{id_refusal}

-- ---- of an image

-- a fact that holds or not
abbrev pub flag : Bool → ℕ
flag b = pick b 1 0

-- its length, the file length that it states, whether that is right and whether the footer is; its counts; where each section
-- starts, the tail and the footer too
unfoldable pub facts_of : Layout → List ℕ → List ℕ
facts_of l s =
    length s
    ∷ word_at s (table.file_length).at
    ∷ flag (eqb (word_at s (table.file_length).at) (length s))
    ∷ flag (verified s)
    ∷ functions_in s
    ∷ kinds_in s
    ∷ identifiers_in s
    ∷ strings_in s
    ∷ overflows_in s
    ∷ storage_in s
    ∷ record_at l 0
    ∷ kinds_at l s
    ∷ hashes_at l s
    ∷ small_at l s
    ∷ over_at l s
    ∷ storage_at l s
    ∷ tail_at l s
    ∷ (length s - footer_length)
    ∷ []

unfoldable pub image_facts : Layout → List ℕ → Outcome
image_facts l s = outcome_for (refusal l s) (facts_of l s)

-- ---- of a string

-- where its bytes start, how many there are, how many units, whether it is wide, whether it is an identifier; and how many small
-- entries and overflow pairs locating it visits (02, No. 9)
abbrev pub facts_of_parts : ℕ → Place → Bool → Counts → List ℕ
facts_of_parts start q identifier c = start ∷ size_of q ∷ q.count ∷ flag q.wide ∷ flag identifier ∷ c.small ∷ c.over ∷ []

-- how many numbers those are
abbrev pub string_fact_count : ℕ
string_fact_count = 7

-- those of string id
unfoldable pub facts_of_string : Layout → List ℕ → ℕ → List ℕ
facts_of_string l s id =
    let q = place_at l s id in
    facts_of_parts (storage_at l s + q.at) q (is_identifier l s id) (visits l s id)

-- or the refusal: 1 to 6, then 7
unfoldable pub string_facts : Layout → List ℕ → ℕ → Outcome
string_facts l s id = outcome_for (id_refusal l s (strings_in s) id) (facts_of_string l s id)

-- ---- of many strings, one behind the other

-- of n strings from id on
unfoldable pub facts_from : Layout → List ℕ → ℕ → ℕ → List ℕ
facts_from l s id zero = []
facts_from l s id (suc n) = facts_from l s id n ++ facts_of_string l s (id + n)

-- how many of `count` strings from id on: those that there are, as many as a buffer of so many numbers has room for
unfoldable pub strings_told : ℕ → ℕ → ℕ → ℕ
strings_told room count id = pick (ltb (room / string_fact_count) (count - id)) (room / string_fact_count) (count - id)

-- in a buffer of so many numbers, or the refusal: 1 to 6
unfoldable pub string_facts_from : ℕ → Layout → List ℕ → ℕ → Outcome
string_facts_from room l s id = outcome_for (refusal l s) (facts_from l s id (strings_told room (strings_in s) id))
