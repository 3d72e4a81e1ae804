-- Many string patches in one pass, and the same patches singly. 02, No. 4.
-- docs/FORMAT.md: Many strings in one pass.
use Rattle.std.specs.Prelude.{not, List, ◌∷◌, ◌++◌, ℕ, zero, suc, length}
use Rattle.refusals.specs.Numbers as refusals
use Rattle.bits.specs.Choice.{pick, check, judge}
use Rattle.bits.specs.Outcome.{Outcome, refused, made, outcome_for}
use Rattle.format.specs.declared.Layout.{Layout}
use Rattle.format.specs.declared.Mode.{Mode}
use Rattle.image.specs.Sections.{strings_in}
use Rattle.image.specs.Admission.{checks}
use Rattle.string_edits.specs.Values.{Edit, values_of}
use Rattle.string_edits.specs.Lists.{edit_in, is_list, all_known, all_differ, all_utf8}
use Rattle.string_in_place.specs.Patch.{result_checks, patched_strings}
use Rattle.strings.specs.Patch.{patch_by_id}

-- each number over the whole list of k edits: "17, an id given twice, after 7 and before 8; 11 to 13 judged on the end image only"
unfoldable pub pass_refusal : Mode → Layout → List ℕ → (ℕ → Edit) → ℕ → ℕ
pass_refusal m l s e k =
    judge
    (checks l s
    ++ (check refusals.id (not (all_known (λ j. (e j).id) k (strings_in s)))
    ∷ check refusals.twice (not (all_differ (λ j. (e j).id) k))
    ∷ check refusals.value (not (all_utf8 (λ j. (e j).value) k))
    ∷ result_checks m l s (values_of e k)))

-- what the pass makes. "With no edits the image is only finalized"
unfoldable pub patch_in_pass : Mode → Layout → List ℕ → (ℕ → Edit) → ℕ → Outcome
patch_in_pass m l s e k = outcome_for (pass_refusal m l s e k) (patched_strings m l s (values_of e k))

-- what `patch_strings` makes: 15 where the lists that it takes are no list of edits; the room comes in by `roomed`
unfoldable pub patch_strings : Mode → Layout → List ℕ → List ℕ → List ℕ → List ℕ → Outcome
patch_strings m l s ids text ends =
    pick (is_list ids text ends) (patch_in_pass m l s (edit_in ids text ends) (length ids)) (refused refusals.job)

-- ---- "applying them singly, in list order and in the same mode"

-- an outcome's image, if there is one, goes on
abbrev pub onward : Outcome → (List ℕ → Outcome) → Outcome
onward (refused n) next = refused n
onward (made t) next = next t

-- the image after the first k, if each was accepted, else the first refusal
unfoldable pub singly : Mode → Layout → List ℕ → (ℕ → Edit) → ℕ → Outcome
singly m l s e zero = made s
singly m l s e (suc k) = onward (singly m l s e k) (λ t. patch_by_id m l t (e k).id (e k).value)
