-- Why a string patch takes the path that it takes. 02, No. 6: "answers one reason"; "The first that holds, in that order, is given. Room is
-- left out."
-- docs/FORMAT.md: Reasons.
use Rattle.std.specs.Prelude.{not, List, ◌∷◌, ◌++◌, ℕ, zero, suc, leb, ltb, eqb, length}
use Rattle.refusals.specs.Numbers as refusals
use Rattle.bits.specs.Choice.{pick, check, judge}
use Rattle.bits.specs.Bytes.{ascii}
use Rattle.format.specs.declared.Layout.{Layout}
use Rattle.format.specs.declared.Mode.{Mode}
use Rattle.utf.specs.Utf8.{is_utf8}
use Rattle.image.specs.Sections.{strings_in}
use Rattle.image.specs.Strings.{size_of, place_at}
use Rattle.image.specs.Admission.{checks}
use Rattle.string_index.specs.Index.{words_for}
use Rattle.string_overlap.specs.Overlap.{is_apart}
use Rattle.string_edits.specs.Values.{only}
use Rattle.string_in_place.specs.Patch.{fits_in_place, result_checks}
use Rattle.string_reasons.specs.declared.Reason.{Reason}
use Rattle.string_reasons.specs.declared.Reason.TheVariants.{Refused, InPlace, Wide, NotAscii, Lengths, Overlap}

-- the lowest of the ids i, i + 1, .. below i + n whose entry overlaps that of id, else i + n
unfoldable pub overlap_from : Layout → List ℕ → ℕ → ℕ → ℕ → ℕ
overlap_from l s id i zero = i
overlap_from l s id i (suc n) = pick (is_apart l s id i) (overlap_from l s id (suc i) n) i

-- "the lowest overlapping id", else the string count
unfoldable pub lowest_overlap : Layout → List ℕ → ℕ → ℕ
lowest_overlap l s id = overlap_from l s id 0 (strings_in s)

-- "in place; wide entry; value not ASCII; lengths differ, with both; or overlap, with the lowest overlapping id"
unfoldable pub path_of : Layout → List ℕ → ℕ → List ℕ → Reason
path_of l s id value =
    let q = place_at l s id in
    pick (fits_in_place l s id value) InPlace
    (pick q.wide Wide
    (pick (not (ascii value)) NotAscii
    (pick (not (eqb (length value) (size_of q))) (Lengths (size_of q) (length value)) (Overlap (lowest_overlap l s id)))))

-- "refused with its number": as the patch by id, its room left out; 13 is that of the lent index
unfoldable pub reason_refusal : Mode → Layout → List ℕ → ℕ → ℕ → List ℕ → ℕ
reason_refusal m l s words id value =
    judge
    (checks l s
    ++ (check refusals.room (ltb words (words_for (strings_in s)))
    ∷ check refusals.id (leb (strings_in s) id)
    ∷ check refusals.value (not (is_utf8 value))
    ∷ result_checks m l s (only id value)))

-- the number of a refusal comes before any path
abbrev pub answer_for : ℕ → Reason → Reason
answer_for n path = pick (eqb n 0) path (Refused n)

-- THE REASON, with an index of so many words
unfoldable pub reason_of : Mode → Layout → List ℕ → ℕ → ℕ → List ℕ → Reason
reason_of m l s words id value = answer_for (reason_refusal m l s words id value) (path_of l s id value)
