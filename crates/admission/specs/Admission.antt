-- What admission answers. 01: "A refusal answers its number"; the record of places otherwise.
-- docs/FORMAT.md: Admission.
use Rattle.std.specs.Prelude.{Bool, List, ℕ, eqb, take, Err, Ok, Result}
use Rattle.refusals.specs.Numbers as refusals
use Rattle.bits.specs.Choice.{pick, both, judge}
use Rattle.format.specs.declared.Layout.{Layout}
use Rattle.image.specs.Admission.{debug_in_tail, checks, refusal}
use Rattle.sections.specs.declared.Places.{Places}
use Rattle.sections.specs.Places.{places_of}
use Rattle.string_tables.specs.Kinds.{kinds_good}
use Rattle.string_tables.specs.Strings.{strings_good}
use Rattle.function_table.specs.Functions.{functions_in_tail}
use Rattle.large_headers.specs.Clear.{all_apart}

-- the answer to a refusal's number, 0 being none
abbrev pub answer_for : Layout → List ℕ → ℕ → Result Places ℕ
answer_for l s n = pick (eqb n 0) (Ok (places_of l s)) (Err n)

-- THE ANSWER for an image
unfoldable pub admission : Layout → List ℕ → Result Places ℕ
admission l s = answer_for l s (refusal l s)

-- ---- its stages, in order

-- numbers 1 to 3: the first four checks
unfoldable pub laid_out : Layout → List ℕ → Result Places ℕ
laid_out l s = answer_for l s (judge (take 4 (checks l s)))

-- numbers 4 and 5
unfoldable pub strings_judged : Places → List ℕ → Result Places ℕ
strings_judged p s =
    pick (kinds_good p.layout s) (pick (strings_good p.layout s) (Ok p) (Err refusals.string)) (Err refusals.kinds)

-- none of the conditions of number 6
unfoldable pub functions_good : Layout → List ℕ → Bool
functions_good l s = both (functions_in_tail l s) (both (debug_in_tail l s) (all_apart l s))

unfoldable pub functions_judged : Places → List ℕ → Result Places ℕ
functions_judged p s = pick (functions_good p.layout s) (Ok p) (Err refusals.function)
