-- A list of edits as it is lent: ids, the values as one text, and their end places. 02, No. 4.
-- docs/FORMAT.md: Many strings in one pass.
use Rattle.std.specs.Prelude.{◌≡◌, Bool, not, List, ℕ, zero, suc, ◌-◌, ◌≤◌, ◌<◌, leb, ltb, eqb, length, get_or}
use Rattle.bits.specs.Choice.{both, all_below}
use Rattle.bits.specs.Bytes.{bytes_at}
use Rattle.utf.specs.Utf8.{is_utf8}
use Rattle.string_edits.specs.declared.Next.{Next}
use Rattle.string_edits.specs.Values.{Values, Edit, values_of}

-- where value j starts, and the one before it ends
unfoldable pub start_in : List ℕ → ℕ → ℕ
start_in ends zero = 0
start_in ends (suc j) = get_or ends j 0

-- value j
unfoldable pub value_in : List ℕ → List ℕ → ℕ → List ℕ
value_in text ends j = bytes_at text (start_in ends j) (start_in ends (suc j) - start_in ends j)

-- edit j
abbrev pub edit_in : List ℕ → List ℕ → List ℕ → ℕ → Edit
edit_in ids text ends j = record { id = get_or ids j 0; value = value_in text ends j }

-- what strings get by all
abbrev pub values_listed : List ℕ → List ℕ → List ℕ → Values
values_listed ids text ends = values_of (edit_in ids text ends) (length ids)

-- ---- what is judged of a list

-- 15 where the three are no list of edits: no end is below the one before it or past the text, and there are as many as ids
abbrev pub is_split : List ℕ → List ℕ → Bool
is_split text ends =
    all_below (length ends) (λ j. both (leb (start_in ends j) (start_in ends (suc j))) (leb (start_in ends (suc j)) (length text)))

unfoldable pub is_list : List ℕ → List ℕ → List ℕ → Bool
is_list ids text ends = both (eqb (length ends) (length ids)) (is_split text ends)

-- 7 for any edit: each id is one of n strings
abbrev pub all_known : (ℕ → ℕ) → ℕ → ℕ → Bool
all_known ids k n = all_below k (λ j. ltb (ids j) n)

-- 17, "an id given twice": an id is new where none before it in the list is the same
abbrev pub is_new : (ℕ → ℕ) → ℕ → Bool
is_new ids j = all_below j (λ i. not (eqb (ids i) (ids j)))

abbrev pub all_differ : (ℕ → ℕ) → ℕ → Bool
all_differ ids k = all_below k (is_new ids)

-- 8 for any edit
abbrev pub all_utf8 : (ℕ → List ℕ) → ℕ → Bool
all_utf8 values k = all_below k (λ j. is_utf8 (values j))

-- ---- what the code goes by

-- value j stands in the text
pub record Within (text ends : List ℕ) (j : ℕ) : Type 0 where
  pub known : j < length ends
  pub rising : start_in ends j ≤ start_in ends (suc j)
  pub end : start_in ends (suc j) ≤ length text

-- n is the edit of the lowest id from `from` on, of the first k of a list; where there is none its id is past those of all strings
pub record NearestOf (ids : List ℕ) (from k : ℕ) (n : Next) : Type 0 where
  pub past : from ≤ n.id
  pub least : (j : ℕ) → j < k → from ≤ get_or ids j 0 → n.id ≤ get_or ids j 0
  pub own : n.id < 0x100000000 → (n.edit < length ids) × (get_or ids n.edit 0 ≡ n.id)
