-- String patches of one image in one order and in another. 02, No. 12: "Two people prepare edits of different strings and merge them in
-- whichever order they arrive." The laws stand in proofs/MergedLaws.antt and EitherLaws.antt. docs/FORMAT.md: Merging in any order.
use Rattle.std.specs.Prelude.{◌≡◌, ◌≢◌, List, [], ◌∷◌, ℕ, zero, suc, ◌<◌, length, get_or}
use Rattle.std.proofs.Math.Option.{none}
use Rattle.format.specs.declared.Layout.{Layout}
use Rattle.format.specs.declared.Mode.{Mode}
use Rattle.utf.specs.Utf8.{utf16}
use Rattle.string_find.specs.Find.{find_id}
use Rattle.string_edits.specs.Values.{Values, Apart, Edit}
use Rattle.patches.specs.Patches.{Patch, by_id, by_value, in_pass, to_body, Step, step_of, image_after}
use Rattle.patches.specs.Patches.{Target, to_values, a_body, target_of}
use Rattle.patches.specs.Lists.{AllInBytes, AllAccepted}

-- ---- "string patches .., in one mode": of the three kinds that there are

abbrev pub OfStrings : Mode → Patch → Type 0
OfStrings m (by_id k id value) = k ≡ m
OfStrings m (by_value k old new) = k ≡ m
OfStrings m (in_pass k e n) = k ≡ m
OfStrings m (to_body id body) = ⊥

abbrev pub AllOfStrings : Mode → List Step → Type 0
AllOfStrings m [] = Unit {0}
AllOfStrings m (p ∷ ps) = OfStrings m p.patch × AllOfStrings m ps

-- a list of them on an image, each accepted on the image that the one before it made
pub record Merged (m : Mode) (l : Layout) (ps : List Step) (s : List ℕ) : Type 0 where
  pub strings : AllOfStrings m ps
  pub bytes : AllInBytes ps
  pub accepted : AllAccepted l ps s

-- ---- "with different ids": what each patch sets

-- no string to anything
abbrev pub nothing : Values
nothing i = none

abbrev pub values_to : Target → Values
values_to (to_values m v) = v
values_to (a_body id body) = nothing

-- by a patch of an image
abbrev pub set_by : Layout → List ℕ → Patch → Values
set_by l s p = values_to (target_of l s p)

-- by patch j of a list, on the image that it comes to: by value that is the string which is found then
unfoldable pub set_at : Layout → List Step → List ℕ → ℕ → Values
set_at l [] s j = nothing
set_at l (p ∷ ps) s zero = set_by l s p.patch
set_at l (p ∷ ps) s (suc j) = set_at l ps (image_after (step_of l s p) s) j

-- no string is set by two
abbrev pub AllApart : (ℕ → Values) → Type 0
AllApart v = (i j : ℕ) → i ≢ j → Apart (v i) (v j)

-- ---- "in whichever order"

-- the first k of f are those of e in another order: number j of f is number `to j` of e, and number j of e is number `back j` of f
pub record Reordered {A : Type 0} (e f : ℕ → A) (k : ℕ) : Type 0 where
  pub to : ℕ → ℕ
  pub back : ℕ → ℕ
  pub to_in : (j : ℕ) → j < k → to j < k
  pub back_in : (j : ℕ) → j < k → back j < k
  pub to_back : (j : ℕ) → j < k → to (back j) ≡ j
  pub back_to : (j : ℕ) → j < k → back (to j) ≡ j
  pub same : (j : ℕ) → j < k → f j ≡ e (to j)

-- two lists on one image, all calls of both accepted: the second sets what the first sets, in another order, and no string is set by two
pub record TwoOrders (m : Mode) (l : Layout) (s : List ℕ) (ps qs : List Step) : Type 0 where
  pub image : (p : ℕ) → get_or s p 0 < 256
  pub first : Merged m l ps s
  pub second : Merged m l qs s
  pub long : length qs ≡ length ps
  pub reordered : Reordered (set_at l ps s) (set_at l qs s) (length ps)
  pub apart : AllApart (set_at l ps s)

-- "all four calls of the two orders are accepted": a and then b, b and then a. No string is set by both: on the image as given, and in
-- either order, since by value a string is found on the image that a patch comes to
pub record FourCalls (m : Mode) (l : Layout) (s : List ℕ) (a b : Step) : Type 0 where
  pub image : (p : ℕ) → get_or s p 0 < 256
  pub first : Merged m l (a ∷ b ∷ []) s
  pub second : Merged m l (b ∷ a ∷ []) s
  pub given : Apart (set_by l s a.patch) (set_by l s b.patch)
  pub in_first : Apart (set_by l s a.patch) (set_by l (image_after (step_of l s a) s) b.patch)
  pub in_second : Apart (set_by l s b.patch) (set_by l (image_after (step_of l s b) s) a.patch)

-- ---- the same of the two entries for one string, in one room

abbrev pub id_step : Mode → ℕ → Edit → Step
id_step m room a = record { patch = by_id m a.id a.value; room = room }

-- by id: the ids differ
pub record TwoById (m : Mode) (l : Layout) (s : List ℕ) (room : ℕ) (a b : Edit) : Type 0 where
  pub image : (p : ℕ) → get_or s p 0 < 256
  pub bytes : ((p : ℕ) → get_or a.value p 0 < 256) × ((p : ℕ) → get_or b.value p 0 < 256)
  pub first : AllAccepted l (id_step m room a ∷ id_step m room b ∷ []) s
  pub second : AllAccepted l (id_step m room b ∷ id_step m room a ∷ []) s
  pub differ : a.id ≢ b.id

-- an old value, and the new one
pub record Replacement : Type 0 where
  pub old : List ℕ
  pub new : List ℕ

abbrev pub value_step : Mode → ℕ → Replacement → Step
value_step m room a = record { patch = by_value m a.old a.new; room = room }

-- the string that is found
abbrev pub found_by : Layout → List ℕ → Replacement → ℕ
found_by l s a = find_id l s (utf16 a.old)

-- by value: the strings that are found differ, on the image as given and in either order
pub record TwoByValue (m : Mode) (l : Layout) (s : List ℕ) (room : ℕ) (a b : Replacement) : Type 0 where
  pub image : (p : ℕ) → get_or s p 0 < 256
  pub bytes : ((p : ℕ) → get_or a.new p 0 < 256) × ((p : ℕ) → get_or b.new p 0 < 256)
  pub first : AllAccepted l (value_step m room a ∷ value_step m room b ∷ []) s
  pub second : AllAccepted l (value_step m room b ∷ value_step m room a ∷ []) s
  pub given : found_by l s a ≢ found_by l s b
  pub in_first : found_by l s a ≢ found_by l (image_after (step_of l s (value_step m room a)) s) b
  pub in_second : found_by l s b ≢ found_by l (image_after (step_of l s (value_step m room b)) s) a

-- ---- any number by id, in one room

-- the first k edits of a list, one after the other
unfoldable pub id_steps : Mode → ℕ → (ℕ → Edit) → ℕ → List Step
id_steps m room e zero = []
id_steps m room e (suc k) = id_step m room (e 0) ∷ id_steps m room (λ j. e (suc j)) k

-- in two orders, all calls of both accepted, and the ids differ
pub record ManyById (m : Mode) (l : Layout) (s : List ℕ) (room : ℕ) (e f : ℕ → Edit) (k : ℕ) : Type 0 where
  pub image : (p : ℕ) → get_or s p 0 < 256
  pub bytes : (j : ℕ) → j < k → (p : ℕ) → get_or (e j).value p 0 < 256
  pub first : AllAccepted l (id_steps m room e k) s
  pub second : AllAccepted l (id_steps m room f k) s
  pub reordered : Reordered e f k
  pub differ : (i j : ℕ) → i < k → j < k → (e i).id ≡ (e j).id → i ≡ j
