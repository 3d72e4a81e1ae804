-- What a reason states, in propositions about the image and the value, in which order, and what the patcher makes. 02, No. 6: "Prove that
-- the reason is the true one: the stated fact holds, none before it does, and the patcher given enough room takes that path."
-- docs/FORMAT.md: Reasons.
use Rattle.std.specs.Prelude.{◌≡◌, true, false, ◌≢◌, List, ℕ, ◌+◌, ◌≤◌, ◌<◌, eqb, length, get_or}
use Rattle.refusals.specs.Numbers as refusals
use Rattle.refusals.specs.Order.{of_reason, turn_in}
use Rattle.bits.specs.Choice.{pick}
use Rattle.bits.specs.Outcome.{Outcome, refused, made, roomed}
use Rattle.format.specs.declared.Layout.{Layout}
use Rattle.format.specs.declared.Mode.{Mode}
use Rattle.image.specs.Sections.{strings_in}
use Rattle.image.specs.Strings.{size_of, place_at}
use Rattle.edits.specs.Rebuild.{rebuild}
use Rattle.string_index.specs.Index.{words_for}
use Rattle.string_edits.specs.Values.{only}
use Rattle.string_packing.specs.Strings.{strings_with}
use Rattle.string_in_place.specs.Patch.{fits_all, finished, patched_in_place}
use Rattle.strings.specs.Patch.{by_id_refusal, patch_by_id}
use Rattle.patches.specs.Patches.{by_id}
use Rattle.patches.specs.Faults.{PatchFault}
use Rattle.string_reasons.specs.declared.Reason.{Reason}
use Rattle.string_reasons.specs.declared.Reason.TheVariants.{Refused, InPlace, Wide, NotAscii, Lengths, Overlap}

-- ---- the facts

-- when it is refused
pub data ReasonFault (m : Mode) (l : Layout) (s : List ℕ) (words id : ℕ) (value : List ℕ) : ℕ → Type 0 where
  -- 1 to 8, 11 and 12: as the patch by id is; "Room is left out"
  of_patch : (room n : ℕ) → n ≢ refusals.room → PatchFault l s room (by_id m id value) n → ReasonFault m l s words id value n
  -- 13: the lent index is shorter than three words for each string
  short_index : words < words_for (strings_in s) → ReasonFault m l s words id value refusals.room

-- the entry of another string, i, overlaps that of string id. 01: "start < other end and other start < end"
pub record Overlaps (l : Layout) (s : List ℕ) (id i : ℕ) : Type 0 where
  pub known : i < strings_in s
  pub other : i ≢ id
  pub ahead : (place_at l s id).at < (place_at l s i).at + size_of (place_at l s i)
  pub behind : (place_at l s i).at < (place_at l s id).at + size_of (place_at l s id)

-- 01: "entry narrow, value ASCII, byte lengths equal, and no other entry overlaps"
pub record GoesInPlace (l : Layout) (s : List ℕ) (id : ℕ) (value : List ℕ) : Type 0 where
  pub narrow : (place_at l s id).wide ≡ false
  pub plain : (i : ℕ) → i < length value → get_or value i 0 ≤ 0x7F
  pub long : length value ≡ size_of (place_at l s id)
  pub alone : (i : ℕ) → Overlaps l s id i → ⊥

-- what each reason states
abbrev pub Fact : Mode → Layout → List ℕ → ℕ → ℕ → List ℕ → Reason → Type 0
Fact m l s words id value (Refused n) = ReasonFault m l s words id value n
Fact m l s words id value InPlace = GoesInPlace l s id value
Fact m l s words id value Wide = (place_at l s id).wide ≡ true
Fact m l s words id value NotAscii = (i : ℕ) × (i < length value) × (0x7F < get_or value i 0)
Fact m l s words id value (Lengths entry new) = (entry ≡ size_of (place_at l s id)) × (new ≡ length value) × (entry ≢ new)
Fact m l s words id value (Overlap i) = Overlaps l s id i × ((k : ℕ) → k < i → Overlaps l s id k → ⊥)

-- ---- "in that order"

-- the numbers as they are due, then the five
abbrev pub turn_of : Reason → ℕ
turn_of (Refused n) = turn_in of_reason n
turn_of InPlace = length of_reason + 1
turn_of Wide = length of_reason + 2
turn_of NotAscii = length of_reason + 3
turn_of (Lengths entry new) = length of_reason + 4
turn_of (Overlap i) = length of_reason + 5

-- "The first that holds": what a reason states, and nothing before it
pub record First (m : Mode) (l : Layout) (s : List ℕ) (words id : ℕ) (value : List ℕ) (r : Reason) : Type 0 where
  pub holds : Fact m l s words id value r
  pub none : (q : Reason) → turn_of q < turn_of r → Fact m l s words id value q → ⊥

-- ---- the patcher

-- the way that it takes: it refuses, it writes over the old bytes, or it packs all strings anew
pub data Way : Type 0 where
  refuses : ℕ → Way
  over_old : Way
  anew : Way

-- as it chooses: by its refusals, and by whether the value fits in place
unfoldable pub way_of : Mode → Layout → List ℕ → ℕ → List ℕ → Way
way_of m l s id value =
    let n = by_id_refusal m l s id value in
    pick (eqb n 0) (pick (fits_all l s (only id value)) over_old anew) (refuses n)

-- what it makes on each
abbrev pub made_by : Mode → Layout → List ℕ → ℕ → List ℕ → Way → Outcome
made_by m l s id value (refuses n) = refused n
made_by m l s id value over_old = made (patched_in_place l s (only id value))
made_by m l s id value anew = made (finished l s (only id value) (rebuild l (strings_with m l s (only id value)) s))

-- the way that a reason tells: the four others rebuild
abbrev pub way_for : Reason → Way
way_for (Refused n) = refuses n
way_for InPlace = over_old
way_for Wide = anew
way_for NotAscii = anew
way_for (Lengths entry new) = anew
way_for (Overlap i) = anew

-- one of these four
abbrev pub Rebuilds : Reason → Type 0
Rebuilds r = way_for r ≡ anew

-- "enough room": there is some for what is made
abbrev pub Enough : ℕ → Outcome → Type 0
Enough room (refused n) = Unit {0}
Enough room (made t) = length t ≤ room

-- in any such room `patch_string_by_id` takes the way that a reason tells, and makes what is made on it
pub record Taken (m : Mode) (l : Layout) (s : List ℕ) (id : ℕ) (value : List ℕ) (r : Reason) : Type 0 where
  pub way : way_of m l s id value ≡ way_for r
  pub makes : (room : ℕ) → Enough room (patch_by_id m l s id value) → roomed room (patch_by_id m l s id value)
      ≡ made_by m l s id value (way_for r)

-- THE REASON IS THE TRUE ONE. 13, of the index, says nothing of the patcher
pub record TrueReason (m : Mode) (l : Layout) (s : List ℕ) (words id : ℕ) (value : List ℕ) (r : Reason) : Type 0 where
  pub first : First m l s words id value r
  pub taken : r ≢ Refused refusals.room → Taken m l s id value r
