-- The index of an image's strings. 02, No. 13: "Let the reader fill a lent index once per image: for each id storage offset, length and
-- flags, in three runs of words."
-- docs/FORMAT.md: Index.
use Rattle.std.specs.Prelude.{Bool, List, [], ◌∷◌, ◌++◌, ℕ, zero, suc, ◌+◌, ◌*◌, leb, ltb, eqb, length, get_or, Err, Ok, Result}
use Rattle.refusals.specs.Numbers as refusals
use Rattle.bits.specs.Choice.{pick, check, judge}
use Rattle.bits.specs.Outcome.{outcome_for, written}
use Rattle.format.specs.declared.Layout.{Layout}
use Rattle.format.specs.Entry.{bit}
use Rattle.image.specs.Sections.{strings_in}
use Rattle.image.specs.Strings.{place_at}
use Rattle.image.specs.Kinds.{is_identifier}
use Rattle.image.specs.Admission.{checks}
use Rattle.sections.specs.Places.{places_of}
use Rattle.string_walk.specs.declared.StringRecord.{StringRecord}
use Rattle.string_walk.specs.Records.{is_ranked}
use Rattle.string_index.specs.declared.Entry.{Entry}
use Rattle.sections.specs.declared.Places.{Places}

-- bit 0: wide; bit 1: an identifier
abbrev pub flags_of : Bool → Bool → ℕ
flags_of wide identifier = bit wide + bit identifier * 2

-- what is held of string i: its offset and length as the table gives them, and its flags
unfoldable pub entry_of : Layout → List ℕ → ℕ → Entry
entry_of l s i =
    let q = place_at l s i in
    record { offset = q.at; length = q.count; flags = flags_of q.wide (is_identifier l s i) }

-- f of each number below n
unfoldable pub tabulate : ℕ → (ℕ → ℕ) → List ℕ
tabulate zero f = []
tabulate (suc n) f = tabulate n f ++ (f n ∷ [])

-- three runs of n words each
unfoldable pub runs : ℕ → (ℕ → Entry) → List ℕ
runs n e = tabulate n (λ i. (e i).offset) ++ (tabulate n (λ i. (e i).length) ++ tabulate n (λ i. (e i).flags))

-- THE INDEX of an image
unfoldable pub index_of : Layout → List ℕ → List ℕ
index_of l s = runs (strings_in s) (entry_of l s)

-- "three words per string"
abbrev pub words_for : ℕ → ℕ
words_for n = n * 3

-- ---- filling

-- "after 1 to 6, 13 when the index is shorter than three words per string"
unfoldable pub fill_refusal : Layout → List ℕ → ℕ → ℕ
fill_refusal l s words = judge (checks l s ++ (check refusals.room (ltb words (words_for (strings_in s))) ∷ []))

-- the answer, in so many words: the string count, which a look-up is told
unfoldable pub filled_as : Layout → List ℕ → ℕ → Result ℕ ℕ
filled_as l s words =
    let n = fill_refusal l s words in
    pick (eqb n 0) (Ok (strings_in s)) (Err n)

-- the lent words afterwards: "nothing written" where it is refused, else the index, and later words stay
unfoldable pub index_after : Layout → List ℕ → List ℕ → List ℕ
index_after l s x = written (outcome_for (fill_refusal l s (length x)) (index_of l s)) x

-- admission of an image for which an index is lent
unfoldable pub admitted_as : Layout → List ℕ → ℕ → Result Places ℕ
admitted_as l s words =
    let n = fill_refusal l s words in
    pick (eqb n 0) (Ok (places_of l s)) (Err n)

-- ---- looking up

-- "a lookup answers what the three runs hold"
unfoldable pub entry_in : List ℕ → ℕ → ℕ → Entry
entry_in x n i = record { offset = get_or x i 0; length = get_or x (n + i) 0; flags = get_or x (n + n + i) 0 }

-- "7 for an id not below the count, then 13 likewise"
unfoldable pub look_refusal : ℕ → ℕ → ℕ → ℕ
look_refusal words n i = judge (check refusals.id (leb n i) ∷ check refusals.room (ltb words (words_for n)) ∷ [])

-- string i, in an index for n strings
unfoldable pub look_up : List ℕ → ℕ → ℕ → Result Entry ℕ
look_up x n i =
    let k = look_refusal (length x) n i in
    pick (eqb k 0) (Ok (entry_in x n i)) (Err k)

-- ---- the walk

-- of a string's record, which the walk answers, "these three"; the law `as_the_walk` says that a look-up equals it
abbrev pub held_of : StringRecord → Entry
held_of r = record { offset = r.place.at; length = r.place.count; flags = flags_of r.place.wide (is_ranked r.rank) }
