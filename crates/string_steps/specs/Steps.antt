-- The single string patches by which strings get their values, one after the other in id order. 02, No. 1: "the result is that of the
-- single string patches in id order, or the image finalized when there are none"; "11 to 13 as the first single patch that meets one".
-- docs/FORMAT.md: Translators' files.
use Rattle.std.specs.Prelude.{◌≡◌, Bool, true, false, ◌⊎◌, List, [], ◌∷◌, ◌++◌, ℕ, suc, ◌≤◌, ◌<◌, get_or, ltb, eqb}
use Rattle.std.proofs.Math.Option.{Option, none, some}
use Rattle.bits.specs.Choice.{pick, all_below}
use Rattle.bits.specs.Outcome.{Outcome, made, roomed}
use Rattle.format.specs.declared.Layout.{Layout}
use Rattle.format.specs.declared.Mode.{Mode}
use Rattle.footer.specs.Finalize.{lengthed, sealed}
use Rattle.image.specs.Sections.{strings_in}
use Rattle.image.specs.Admitted.{Admitted}
use Rattle.utf.specs.Utf8.{is_utf8}
use Rattle.string_edits.specs.Values.{Values, in_turn}
use Rattle.string_in_place.specs.Patch.{patch_known}
use Rattle.string_rebuild.specs.Ready.{number_of}
use Rattle.strings.specs.Pass.{onward}
use Rattle.patches.specs.Patches.{Step, step_of, image_after}
use Rattle.patches.specs.Lists.{Accepted, FirstFault}
use Rattle.patches.specs.Orders.{id_step}

-- ---- the list of patches

-- one patch by id for each of the first n strings that gets a value, in id order, each with the room lent
unfoldable pub steps_of : Mode → ℕ → Values → ℕ → List Step
steps_of m room v n = in_turn v (λ i value ps. ps ++ (id_step m room (record { id = i; value = value }) ∷ [])) n []

-- each on the image that the one before it made: the last image, or the first refusal
unfoldable pub until_refused : Layout → List Step → List ℕ → Outcome
until_refused l [] s = made s
until_refused l (p ∷ ps) s = onward (step_of l s p) (until_refused l ps)

-- in propositions: the first patch that is refused is refused with n, by a fault that is there and none that is due before it
abbrev pub StopsWith : Layout → List Step → List ℕ → ℕ → Type 0
StopsWith l [] s n = ⊥
StopsWith l (p ∷ ps) s n = FirstFault l s p n ⊎ (Accepted l s p × StopsWith l ps (image_after (step_of l s p) s) n)

-- ---- what is made of an image

abbrev pub is_none : Option (List ℕ) → Bool
is_none none = true
is_none (some value) = false

-- none of the first n strings gets a value
abbrev pub none_gets : Values → ℕ → Bool
none_gets v n = all_below n (λ i. is_none (v i))

-- "the single string patches in id order, or the image finalized when there are none"
unfoldable pub stepwise : Mode → Layout → List ℕ → ℕ → Values → Outcome
stepwise m l s room v =
    pick (none_gets v (strings_in s)) (roomed room (made (sealed (lengthed s)))) (until_refused l (steps_of m room v (strings_in s)) s)

-- ---- what the code goes by: each patch is judged as the one patch of all strings up to its own, on the image as given

-- what strings get below an id
abbrev pub up_to : ℕ → Values → Values
up_to k v i = pick (ltb i k) (v i) none

-- the number that the patch of the strings below an id meets
unfoldable pub stop_at : Mode → Layout → List ℕ → ℕ → Values → ℕ → ℕ
stop_at m l s room v k = number_of (roomed room (patch_known m l s (up_to k v)))

-- the first number that a patch of the first n strings meets
unfoldable pub first_stop : Mode → Layout → List ℕ → ℕ → Values → ℕ → ℕ
first_stop m l s room v n = in_turn v (λ i value r. pick (eqb r 0) (stop_at m l s room v (suc i)) r) n 0

-- strings of an admitted image get values that are UTF-8
pub record Sound (l : Layout) (s : List ℕ) (v : Values) : Type 0 where
  pub admitted : Admitted l s
  pub valid : (i : ℕ) → i < strings_in s → (value : List ℕ) → v i ≡ some value → is_utf8 value ≡ true
  pub bytes : (i : ℕ) → i < strings_in s → (value : List ℕ) → v i ≡ some value → (p : ℕ) → get_or value p 0 < 256
  -- no others do
  pub past : (i : ℕ) → strings_in s ≤ i → v i ≡ none
