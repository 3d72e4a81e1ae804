-- A string patch: by id and by value, in a mode of rebuilding. 01, Strings and Refusal numbers; 02, No. 2.
-- docs/FORMAT.md: String patches, Order.
use Rattle.std.specs.Prelude.{not, List, ◌∷◌, ◌++◌, ℕ, leb}
use Rattle.refusals.specs.Numbers as refusals
use Rattle.bits.specs.Choice.{check, judge}
use Rattle.bits.specs.Outcome.{Outcome, outcome_for}
use Rattle.format.specs.declared.Layout.{Layout}
use Rattle.format.specs.declared.Mode.{Mode}
use Rattle.utf.specs.Utf8.{is_utf8, utf16}
use Rattle.image.specs.Sections.{strings_in}
use Rattle.image.specs.Admission.{checks}
use Rattle.string_find.specs.Find.{find_id}
use Rattle.string_edits.specs.Values.{only}
use Rattle.string_in_place.specs.Patch.{result_checks, patched_strings}

-- "1 to 6 as numbered; by id 7, 8; .. then 11, 12"
unfoldable pub by_id_refusal : Mode → Layout → List ℕ → ℕ → List ℕ → ℕ
by_id_refusal m l s id value =
    judge (checks l s ++ (check refusals.id (leb (strings_in s) id) ∷ check refusals.value (not (is_utf8 value))
    ∷ result_checks m l s (only id value)))

-- what `patch_string_by_id` makes; the room comes in by `roomed`
unfoldable pub patch_by_id : Mode → Layout → List ℕ → ℕ → List ℕ → Outcome
patch_by_id m l s id value = outcome_for (by_id_refusal m l s id value) (patched_strings m l s (only id value))

-- by value: "no string has the old value's UTF-16 units; else the lowest such id is patched"; "by value 8 (old, new), 14; .. then 11, 12"
unfoldable pub by_value_refusal : Mode → Layout → List ℕ → List ℕ → List ℕ → ℕ
by_value_refusal m l s old new =
    judge
    (checks l s
    ++ (check refusals.value (not (is_utf8 old))
    ∷ check refusals.value (not (is_utf8 new))
    ∷ check refusals.absent (leb (strings_in s) (find_id l s (utf16 old)))
    ∷ result_checks m l s (only (find_id l s (utf16 old)) new)))

-- what `patch_string_replace` makes
unfoldable pub patch_by_value : Mode → Layout → List ℕ → List ℕ → List ℕ → Outcome
patch_by_value m l s old new = outcome_for (by_value_refusal m l s old new) (patched_strings m l s (only (find_id l s (utf16 old)) new))
