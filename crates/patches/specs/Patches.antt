-- Patches of an image, one after the other. 01, "What is ported and what is added" and the demand on lists of patches.
-- docs/FORMAT.md: Lists of patches.
use Rattle.std.specs.Prelude.{List, [], ◌∷◌, ℕ}
use Rattle.bits.specs.Outcome.{Outcome, refused, made, roomed}
use Rattle.format.specs.declared.Layout.{Layout}
use Rattle.format.specs.declared.Mode.{Mode}
use Rattle.utf.specs.Utf8.{utf16}
use Rattle.string_find.specs.Find.{find_id}
use Rattle.string_edits.specs.Values.{Values, only, Edit, values_of}
use Rattle.strings.specs.Patch.{patch_by_id, patch_by_value}
use Rattle.strings.specs.Pass.{patch_in_pass}
use Rattle.functions.specs.Patch.{patch_body}

-- a string by its id and a string by its value (old, new), each in a mode (02, No. 2); the first k edits of a list in one pass (02,
-- No. 4); a body by its id
pub data Patch : Type 0 where
  by_id : Mode → ℕ → List ℕ → Patch
  by_value : Mode → List ℕ → List ℕ → Patch
  in_pass : Mode → (ℕ → Edit) → ℕ → Patch
  to_body : ℕ → List ℕ → Patch

-- a patch in another mode; a body has none
abbrev pub in_mode : Mode → Patch → Patch
in_mode m (by_id k id value) = by_id m id value
in_mode m (by_value k old new) = by_value m old new
in_mode m (in_pass j e k) = in_pass m e k
in_mode m (to_body id body) = to_body id body

-- what a patch makes of an image, whatever the room
unfoldable pub outcome_of : Layout → List ℕ → Patch → Outcome
outcome_of l s (by_id m id value) = patch_by_id m l s id value
outcome_of l s (by_value m old new) = patch_by_value m l s old new
outcome_of l s (in_pass m e k) = patch_in_pass m l s e k
outcome_of l s (to_body id body) = patch_body l s id body

-- a patch, and the room for its result
pub record Step : Type 0 where
  pub patch : Patch
  pub room : ℕ

unfoldable pub step_of : Layout → List ℕ → Step → Outcome
step_of l s p = roomed p.room (outcome_of l s p.patch)

-- the image after a step: a refused one leaves it as it is
abbrev pub image_after : Outcome → List ℕ → List ℕ
image_after (refused n) s = s
image_after (made t) s = t

-- the image after a list of steps, each applied to the last image accepted
unfoldable pub run : Layout → List Step → List ℕ → List ℕ
run l [] s = s
run l (p ∷ ps) s = run l ps (image_after (step_of l s p) s)

-- the same steps, each in one mode
unfoldable pub all_in : Mode → List Step → List Step
all_in m [] = []
all_in m (p ∷ ps) = record { patch = in_mode m p.patch; room = p.room } ∷ all_in m ps

-- ---- what a patch sets: strings to values, with the mode of a rebuild, or a body to bytes

pub data Target : Type 0 where
  to_values : Mode → Values → Target
  a_body : ℕ → List ℕ → Target

-- by value it is the lowest id that has the old value's units
unfoldable pub target_of : Layout → List ℕ → Patch → Target
target_of l s (by_id m id value) = to_values m (only id value)
target_of l s (by_value m old new) = to_values m (only (find_id l s (utf16 old)) new)
target_of l s (in_pass m e k) = to_values m (values_of e k)
target_of l s (to_body id body) = a_body id body

-- ---- what is carried along a list: each accepted step may set it, a refused one does not

abbrev pub taken : {A : Type 0} → Outcome → (A → A) → A → A
taken (refused n) set a = a
taken (made t) set a = set a

unfoldable pub carried : {A : Type 0} → Layout → (List ℕ → Target → A → A) → List Step → List ℕ → A → A
carried l set [] s a = a
carried l set (p ∷ ps) s a =
    carried l set ps (image_after (step_of l s p) s) (taken (step_of l s p) (set s (target_of l s p.patch)) a)
