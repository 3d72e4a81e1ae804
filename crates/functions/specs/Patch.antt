-- A body patch. 01, Bodies and Refusal numbers.
-- docs/FORMAT.md: Body patches, Order.
use Rattle.std.specs.Prelude.{not, List, [], ◌∷◌, ◌++◌, ℕ, leb, ltb, eqb, length, Err, Ok, Result}
use Rattle.std.proofs.lemmas.List.Edits.{sets}
use Rattle.refusals.specs.Numbers as refusals
use Rattle.bits.specs.Choice.{pick, Check, check, judge}
use Rattle.bits.specs.Outcome.{Outcome, outcome_for}
use Rattle.format.specs.declared.Layout.{Layout}
use Rattle.footer.specs.Finalize.{size_limit, lengthed, sealed}
use Rattle.image.specs.Sections.{functions_in}
use Rattle.image.specs.Functions.{func_of}
use Rattle.image.specs.Admission.{checks}
use Rattle.edits.specs.Rebuild.{resize}
use Rattle.edits.specs.Fit.{fields_fit}
pub use Rattle.function_checks.specs.Checks.{threshold, shares_with, from_nothing, moved_past_body}
unfoldable pub use Rattle.function_checks.specs.Checks.{body_alone, infos_outside, debug_past, size_fits}

-- ---- the patched image

-- the image with the new body; one of another length moves what lies behind it
abbrev pub bodied : Layout → List ℕ → ℕ → List ℕ → List ℕ
bodied l s id body = pick (eqb (length body) (func_of l s id).size) (sets s (func_of l s id).begin body) (resize l id body s)

-- "Equal length changes the body bytes, file length and footer only"
unfoldable pub patched_body : Layout → List ℕ → ℕ → List ℕ → List ℕ
patched_body l s id body = sealed (lengthed (bodied l s id body))

-- ---- refusals

-- 9 to 12: what is judged of the body and of the result
abbrev pub body_checks : Layout → List ℕ → ℕ → List ℕ → List Check
body_checks l s id body =
    check refusals.inside (not (body_alone l s id))
    ∷ check refusals.inside (not (infos_outside l s id))
    ∷ check refusals.inside (not (debug_past l s id))
    ∷ check refusals.empty (from_nothing (func_of l s id).size (length body))
    ∷ check refusals.limit (ltb size_limit (moved_past_body l s id body (length s)))
    ∷ check refusals.field (not (size_fits l s id body))
    ∷ check refusals.field (not (fields_fit l s (moved_past_body l s id body)))
    ∷ []

-- "1 to 6 as numbered; .. bodies 7, 9, 10; then 11, 12"
unfoldable pub body_refusal : Layout → List ℕ → ℕ → List ℕ → ℕ
body_refusal l s id body = judge (checks l s ++ (check refusals.id (leb (functions_in s) id) ∷ body_checks l s id body))

-- what `patch_function_bytes` makes; the room comes in by `roomed`
unfoldable pub patch_body : Layout → List ℕ → ℕ → List ℕ → Outcome
patch_body l s id body = outcome_for (body_refusal l s id body) (patched_body l s id body)

-- ---- what code answers before it writes: the refusal, or the length of the result

abbrev pub answer_for : ℕ → ℕ → Result ℕ ℕ
answer_for number len = pick (eqb number 0) (Ok len) (Err number)
