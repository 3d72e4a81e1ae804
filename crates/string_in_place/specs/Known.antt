-- What the functions of a string patch go by.
use Rattle.std.specs.Prelude.{◌≡◌, Bool, true, not, List, ℕ, ◌+◌, ◌≤◌, ◌<◌, eqb, length, None, Option, Some}
use Rattle.std.proofs.lemmas.List.Edits.{sets}
use Rattle.bits.specs.Choice.{pick, both}
use Rattle.bits.specs.Bytes.{ascii}
use Rattle.format.specs.declared.Layout.{Layout}
use Rattle.format.specs.Table.{hash_entry}
use Rattle.format.specs.Number.{entry_at, bytes_for}
use Rattle.format.specs.Entry.{Place}
use Rattle.format.specs.Hash.{hash_of}
use Rattle.footer.specs.Finalize.{least_length, size_limit}
use Rattle.image.specs.Strings.{place_at, size_of}
use Rattle.sections.specs.declared.Places.{Places}
use Rattle.sections.specs.Places.{Laid}
use Rattle.string_overlap.specs.Overlap.{is_alone}
use Rattle.string_walk.specs.declared.Cursor.{Cursor}
use Rattle.string_walk.specs.Places.{CursorOf}
use Rattle.string_edits.specs.Told.{Told, Tells, values_in, Listed}
use Rattle.string_in_place.specs.Patch.{fits_all}

-- a cursor that stands at or before the first edited string of an image
pub record FirstOf (p : Places) (s : List ℕ) (edits : Told) (c : Cursor) : Type 0 where
  pub cursor : CursorOf p s c
  pub most : c.id ≤ p.strings
  pub first : (id j : ℕ) → Tells edits id j → c.id ≤ id

-- edits of an admitted image, each of a string that it has, and where a pass over the edited strings starts
pub record Given (p : Places) (s : List ℕ) (edits : Told) (text ends : List ℕ) (c : Cursor) : Type 0 where
  pub laid : Laid p s
  pub listed : Listed edits text ends
  pub known : (id j : ℕ) → Tells edits id j → id < p.strings
  pub from : FirstOf p s edits c

-- ---- in place

-- a value may go over a string's bytes, if these are its own: all but the overlap
abbrev pub sized_at : Place → List ℕ → Bool
sized_at q value = both (not q.wide) (both (ascii value) (eqb (length value) (size_of q)))

-- the test of an edit by its size, or by the overlaps
abbrev pub tested : Bool → Layout → List ℕ → ℕ → List ℕ → Bool
tested overlaps l s id value = pick overlaps (is_alone l s id) (sized_at (place_at l s id) value)

-- every value goes over its string's bytes
pub record Overwritten (p : Places) (s : List ℕ) (edits : Told) (text ends : List ℕ) (c : Cursor) : Type 0 where
  pub given : Given p s edits text ends c
  pub fits : fits_all p.layout s (values_in edits text ends) ≡ true

-- ---- the end of a patch, by the rank that a record carries

-- the hash of units in the slot of a rank, where the slots start at a place; a plain string has none
abbrev pub slotted : ℕ → Option ℕ → List ℕ → List ℕ → List ℕ
slotted slots (Some k) units out = sets out (entry_at slots hash_entry k) (bytes_for hash_entry (hash_of units))
slotted slots None units out = out

-- a buffer of n bytes holds the slot of a rank
pub record SlotFits (slots : ℕ) (rank : Option ℕ) (n : ℕ) : Type 0 where
  pub slot : (k : ℕ) → rank ≡ Some k → entry_at slots hash_entry k + hash_entry.width ≤ n
  pub limit : n ≤ size_limit

-- a buffer of n bytes holds all hash slots of an image, and is as long as an image may be
pub record Finishable (p : Places) (n : ℕ) : Type 0 where
  pub slots : p.small_at ≤ n
  pub least : least_length ≤ n
  pub limit : n ≤ size_limit
