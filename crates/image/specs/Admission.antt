-- Admission: when an image is refused with 1 to 6. 01, Refusal numbers. Each condition is one test; all of one number come before
-- any of the next; sums are exact.
-- docs/FORMAT.md: Admission.
use Rattle.std.specs.Prelude.{Bool, not, List, [], ◌∷◌, ℕ, ◌+◌, leb, ltb, eqb, length, get_or}
use Rattle.refusals.specs.Numbers as refusals
use Rattle.bits.specs.Choice.{both, implies, all_below, Check, check, judge}
use Rattle.format.specs.declared.Layout.{Layout}
use Rattle.format.specs.Table as table
use Rattle.format.specs.Record.{value_of}
use Rattle.format.specs.Number.{number_held}
use Rattle.format.specs.Entry.{Place}
use Rattle.footer.specs.Footer.{footer_length}
use Rattle.footer.specs.Finalize.{size_limit}
use Rattle.image.specs.Sections.{functions_in, kinds_in, identifiers_in, strings_in, overflows_in, storage_in, debug_in}
use Rattle.image.specs.Sections.{storage_at, tail_at}
use Rattle.image.specs.Strings.{is_full, over_before, small_in, place_at, size_of}
use Rattle.image.specs.Kinds.{kind_in, covered, identified}
use Rattle.image.specs.Functions.{Func, func_of}

-- ---- 5 string

-- as many entries overflow as the header says
unfoldable pub overflows_counted : Layout → List ℕ → Bool
overflows_counted l s = eqb (over_before (small_in l s) (strings_in s)) (overflows_in s)

-- the k-th overflow entry has k in its offset field
unfoldable pub overflows_numbered : Layout → List ℕ → Bool
overflows_numbered l s =
    all_below (strings_in s) (λ i. implies (is_full (small_in l s i))
    (eqb (value_of table.entry_offset (small_in l s i)) (over_before (small_in l s) i)))

-- no string leaves storage
unfoldable pub strings_stored : Layout → List ℕ → Bool
strings_stored l s = all_below (strings_in s) (λ i. leb ((place_at l s i).at + size_of (place_at l s i)) (storage_in s))

-- no byte of a narrow string exceeds 0x7F
unfoldable pub bytes_narrow : Layout → List ℕ → Place → Bool
bytes_narrow l s p = implies (not p.wide) (all_below p.count (λ j. leb (get_or s (storage_at l s + p.at + j) 0) 0x7F))

unfoldable pub strings_narrow : Layout → List ℕ → Bool
strings_narrow l s = all_below (strings_in s) (λ i. bytes_narrow l s (place_at l s i))

-- ---- 6 function

-- n bytes from p start in the tail and end before the footer
abbrev pub in_tail : Layout → List ℕ → ℕ → ℕ → Bool
in_tail l s p n = both (leb (tail_at l s) p) (leb (p + n + footer_length) (length s))

-- a place is 0, or in the tail; it has no width
abbrev pub place_in_tail : Layout → List ℕ → ℕ → Bool
place_in_tail l s p = implies (not (eqb p 0)) (in_tail l s p 0)

-- the words of each large header, each body, each info place and the debug place
unfoldable pub headers_in : Layout → List ℕ → Bool
headers_in l s = all_below (functions_in s) (λ i. implies (func_of l s i).large (in_tail l s (func_of l s i).ptr (table.large_row l).width))

unfoldable pub bodies_in : Layout → List ℕ → Bool
bodies_in l s = all_below (functions_in s) (λ i. in_tail l s (func_of l s i).begin (func_of l s i).size)

unfoldable pub infos_in : Layout → List ℕ → Bool
infos_in l s = all_below (functions_in s) (λ i. place_in_tail l s (func_of l s i).info)

unfoldable pub debug_in_tail : Layout → List ℕ → Bool
debug_in_tail l s = place_in_tail l s (debug_in l s)

-- w bytes from p and v bytes from q share none
abbrev pub apart : ℕ → ℕ → ℕ → ℕ → Bool
apart p w q v = implies (ltb p (q + v)) (leb (p + w) q)

-- the words of two records' large headers share no byte
abbrev pub headers_apart2 : ℕ → Func → Func → Bool
headers_apart2 w f g = implies f.large (implies g.large (apart f.ptr w g.ptr w))

unfoldable pub headers_apart : Layout → List ℕ → Bool
headers_apart l s =
    all_below (functions_in s)
    (λ i. all_below (functions_in s)
    (λ j. implies (not (eqb i j)) (headers_apart2 (table.large_row l).width (func_of l s i) (func_of l s j))))

-- a body that is not empty and the words of a large header share no byte, the record's own too
abbrev pub body_apart : ℕ → Func → Func → Bool
body_apart w f g = implies (ltb 0 f.size) (implies g.large (apart g.ptr w f.begin f.size))

unfoldable pub bodies_apart : Layout → List ℕ → Bool
bodies_apart l s =
    all_below (functions_in s) (λ i. all_below (functions_in s) (λ j. body_apart (table.large_row l).width (func_of l s i) (func_of l s j)))

-- ---- the checks in order

-- what can be wrong with an image, each with its number
unfoldable pub checks : Layout → List ℕ → List Check
checks l s =
    check refusals.size (ltb (length s) (table.header_length + footer_length))
    ∷ check refusals.size (ltb size_limit (length s))
    ∷ check refusals.magic (not (eqb (number_held table.magic s) table.magic_number))
    ∷ check refusals.sections (ltb (length s) (tail_at l s + footer_length))
    ∷ check refusals.kinds (not (eqb (covered (kind_in l s) (kinds_in s)) (strings_in s)))
    ∷ check refusals.kinds (not (eqb (identified (kind_in l s) (kinds_in s)) (identifiers_in s)))
    ∷ check refusals.string (not (overflows_counted l s))
    ∷ check refusals.string (not (overflows_numbered l s))
    ∷ check refusals.string (not (strings_stored l s))
    ∷ check refusals.string (not (strings_narrow l s))
    ∷ check refusals.function (not (headers_in l s))
    ∷ check refusals.function (not (bodies_in l s))
    ∷ check refusals.function (not (infos_in l s))
    ∷ check refusals.function (not (debug_in_tail l s))
    ∷ check refusals.function (not (headers_apart l s))
    ∷ check refusals.function (not (bodies_apart l s))
    ∷ []

-- the refusal number of an image, or 0 where it is admitted
unfoldable pub refusal : Layout → List ℕ → ℕ
refusal l s = judge (checks l s)
