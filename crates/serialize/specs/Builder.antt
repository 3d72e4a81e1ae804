-- The builder: its refusals in order, and its outcome. 01, Refusal numbers: "Builder: 15, 8, 12, 11, 13".
-- docs/FORMAT.md: Builder, Order.
use Rattle.std.specs.Prelude.{Bool, not, List, [], ◌∷◌, ℕ, suc, leb, ltb, length, Err, Ok, Result}
use Rattle.refusals.specs.Numbers as refusals
use Rattle.bits.specs.Choice.{pick, all_below, Check, check, judge}
use Rattle.bits.specs.Bytes.{ascii}
use Rattle.bits.specs.Outcome.{Outcome, outcome_for}
use Rattle.format.specs.Entry.{is_over}
use Rattle.footer.specs.Finalize.{size_limit}
use Rattle.serialize.specs.Parts.{start_of, place_of, storage_of, minimal}

-- 01, refusal 15: "builder version under 97"
abbrev pub least_version : ℕ
least_version = 97

-- no end is below the one before
unfoldable pub ends_ascend : List ℕ → Bool
ends_ascend ends = all_below (length ends) (λ i. leb (start_of ends i) (start_of ends (suc i)))

-- no end is past the text
unfoldable pub ends_within : List ℕ → List ℕ → Bool
ends_within text ends = all_below (length ends) (λ i. leb (start_of ends (suc i)) (length text))

-- no string is of 255 bytes or more, or at offset 0x800000 or more
unfoldable pub all_small : List ℕ → Bool
all_small ends = all_below (length ends) (λ i. not (is_over (place_of ends i)))

-- all refusals but 13, in their order. 01: "Builder: 15, 8, 12, 11, 13"
unfoldable pub checks : ℕ → List ℕ → List ℕ → List ℕ → List Check
checks version text ends body =
    check refusals.job (not (ends_ascend ends))
    ∷ check refusals.job (not (ends_within text ends))
    ∷ check refusals.job (ltb version least_version)
    ∷ check refusals.value (not (ascii (storage_of text ends)))
    ∷ check refusals.field (not (all_small ends))
    ∷ check refusals.limit (ltb size_limit (length (minimal version (storage_of text ends) ends body)))
    ∷ []

-- what a buffer that is long enough gets
unfoldable pub built : ℕ → List ℕ → List ℕ → List ℕ → Outcome
built version text ends body = outcome_for (judge (checks version text ends body)) (minimal version (storage_of text ends) ends body)

-- the answer by the length alone
abbrev pub length_answer : ℕ → Result ℕ ℕ
length_answer n = pick (ltb size_limit n) (Err refusals.limit) (Ok n)
