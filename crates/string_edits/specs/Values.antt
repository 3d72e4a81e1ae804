-- What strings get by edits: for each id a value, or none. 02, Nos. 4 and 12.
-- docs/FORMAT.md: String patches, Many strings in one pass, Merging in any order.
use Rattle.std.specs.Prelude.{◌≡◌, Bool, true, List, ℕ, zero, suc, eqb}
use Rattle.std.proofs.Math.Option.{Option, none, some}
use Rattle.bits.specs.Choice.{pick, both}

abbrev pub Values : Type 0
Values = ℕ → Option (List ℕ)

-- one string gets a value
abbrev pub only : ℕ → List ℕ → Values
only id value i = pick (eqb i id) (some value) none

-- ---- two patches, one behind the other

-- what a string gets: the second's value, if it has one, else the first's
abbrev pub last_of : Option (List ℕ) → Option (List ℕ) → Option (List ℕ)
last_of none first = first
last_of (some value) first = some value

-- what strings get by both
abbrev pub joined : Values → Values → Values
joined v w i = last_of (w i) (v i)

-- no string gets a value by both: "edits of different strings" (02, No. 12)
abbrev pub Apart : Values → Values → Type 0
Apart v w = (i : ℕ) (x y : List ℕ) → v i ≡ some x → w i ≡ some y → ⊥

-- ---- a list of edits, as a function of their number with a count

-- a string by its id, and the value that it gets
pub record Edit : Type 0 where
  pub id : ℕ
  pub value : List ℕ

-- what strings get by the first k
unfoldable pub values_of : (ℕ → Edit) → ℕ → Values
values_of e zero i = none
values_of e (suc k) i = pick (eqb i (e k).id) (some (e k).value) (values_of e k i)

-- ---- each edited string in its turn

-- what a string does that gets a value; any other does nothing
abbrev pub taking : {A : Type 0} → (List ℕ → A → A) → Option (List ℕ) → A → A
taking turn none a = a
taking turn (some value) a = turn value a

-- the first n strings, in id order
unfoldable pub in_turn : {A : Type 0} → Values → (ℕ → List ℕ → A → A) → ℕ → A → A
in_turn v turn zero a = a
in_turn v turn (suc i) a = taking (turn i) (v i) (in_turn v turn i a)

-- each that gets a value passes a test
abbrev pub all_edited : Values → (ℕ → List ℕ → Bool) → ℕ → Bool
all_edited v test n = in_turn v (λ i value b. both (test i value) b) n true
