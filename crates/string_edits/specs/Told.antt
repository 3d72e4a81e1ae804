-- Edits of strings as words tell them: by a list of ids (02, No. 4), or by a mark for each string (02, No. 1: one value for many).
-- docs/FORMAT.md: Many strings in one pass.
use Rattle.std.specs.Prelude.{◌≡◌, List, [], ℕ, zero, suc, ◌≤◌, ◌<◌, ltb, length, get_or}
use Rattle.std.proofs.Math.Option.{Option, none, some}
use Rattle.bits.specs.Choice.{pick}
use Rattle.string_edits.specs.declared.Form.{Form}
use Rattle.string_edits.specs.declared.Form.TheVariants.{Ids, Marks}
use Rattle.string_edits.specs.declared.Next.{Next}
use Rattle.string_edits.specs.Values.{Values}
use Rattle.string_edits.specs.Lists.{value_in, values_listed, Within}

-- words, and how they tell
pub record Told : Type 0 where
  pub form : Form
  pub words : List ℕ

abbrev pub told : Form → List ℕ → Told
told form words = record { form = form; words = words }

-- edit j is of string id: word j is the id; or the word at id is a mark, one more than j
abbrev pub tells_by : Form → List ℕ → ℕ → ℕ → Type 0
tells_by Ids words id j = (j < length words) × (get_or words j 0 ≡ id)
tells_by Marks words id j = (id < length words) × (get_or words id 0 ≡ suc j)

abbrev pub Tells : Told → ℕ → ℕ → Type 0
Tells edits = tells_by edits.form edits.words

-- what strings get by marks
abbrev pub marked : List ℕ → List ℕ → ℕ → Option (List ℕ)
marked text ends zero = none
marked text ends (suc j) = some (value_in text ends j)

abbrev pub values_marked : List ℕ → List ℕ → List ℕ → Values
values_marked marks text ends i = marked text ends (get_or marks i 0)

-- what strings get in either form
abbrev pub values_by : Form → List ℕ → List ℕ → List ℕ → Values
values_by Ids = values_listed
values_by Marks = values_marked

abbrev pub values_in : Told → List ℕ → List ℕ → Values
values_in edits = values_by edits.form edits.words

-- ---- what the code goes by

-- the values of all edits stand in the text, and a string has one edit at most
pub record Listed (edits : Told) (text ends : List ℕ) : Type 0 where
  pub within : (id j : ℕ) → Tells edits id j → Within text ends j
  pub one : (id i j : ℕ) → Tells edits id i → Tells edits id j → i ≡ j

-- n is the edit that comes next at string `from`: that of the lowest id from there on; where none is left its id is past those of all
-- strings
pub record NextOf (edits : Told) (from : ℕ) (n : Next) : Type 0 where
  pub past : from ≤ n.id
  pub least : (id j : ℕ) → Tells edits id j → from ≤ id → n.id ≤ id
  pub own : n.id < 0x100000000 → Tells edits n.id n.edit

-- its value, or nothing
abbrev pub coming_in : List ℕ → List ℕ → Next → List ℕ
coming_in text ends n = pick (ltb n.id 0x100000000) (value_in text ends n.edit) []

-- the same said of what strings get: from `from` on, the first that gets a value is id
pub record Coming (v : Values) (value : List ℕ) (from id : ℕ) : Type 0 where
  pub past : from ≤ id
  pub before : (i : ℕ) → from ≤ i → i < id → v i ≡ none
  pub at : id < 0x100000000 → v id ≡ some value
