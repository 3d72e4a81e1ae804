-- Kinds, identifiers and hash slots. 01, Image rules: "top bit set means identifier, low 31 bits a count; kinds cover the ids in order".
-- docs/FORMAT.md: Kinds, Identifier hash.
use Rattle.std.specs.Prelude.{Bool, false, List, ℕ, zero, suc, leb, eqb}
use Rattle.bits.specs.Choice.{pick, sum_below}
use Rattle.format.specs.declared.Layout.{Layout}
use Rattle.format.specs.Table.{kind_run, kind_identifier, kind_entry, hash_entry}
use Rattle.format.specs.Record.{value_of}
use Rattle.format.specs.Number.{entry_in}
use Rattle.format.specs.Entry.{bit}
use Rattle.image.specs.Sections.{kinds_in, kinds_at, hashes_at}

-- kind word k
unfoldable pub kind_in : Layout → List ℕ → ℕ → ℕ
kind_in l s k = entry_in (kinds_at l s) kind_entry s k

-- how many ids a kind word covers, whether they are identifiers, and how many identifiers that makes
abbrev pub run_of : ℕ → ℕ
run_of w = value_of kind_run w

abbrev pub is_identifier_run : ℕ → Bool
is_identifier_run w = eqb (value_of kind_identifier w) 1

abbrev pub identifier_run : ℕ → ℕ
identifier_run w = pick (is_identifier_run w) (run_of w) 0

-- the ids that the first n kinds cover, and the identifiers among them; the sums are exact
unfoldable pub covered : (ℕ → ℕ) → ℕ → ℕ
covered w n = sum_below n (λ k. run_of (w k))

unfoldable pub identified : (ℕ → ℕ) → ℕ → ℕ
identified w n = sum_below n (λ k. identifier_run (w k))

-- whether id i is an identifier: as the last of n kinds says that starts at or before it
unfoldable pub flag_of : (ℕ → ℕ) → ℕ → ℕ → Bool
flag_of w zero i = false
flag_of w (suc n) i = pick (leb (covered w n) i) (is_identifier_run (w n)) (flag_of w n i)

-- the identifier flag of string i
unfoldable pub is_identifier : Layout → List ℕ → ℕ → Bool
is_identifier l s i = flag_of (kind_in l s) (kinds_in s) i

-- the rank of id i among identifiers: how many identifiers come before it
unfoldable pub rank_of : Layout → List ℕ → ℕ → ℕ
rank_of l s i = sum_below i (λ j. bit (is_identifier l s j))

-- hash slot r
unfoldable pub hash_in : Layout → List ℕ → ℕ → ℕ
hash_in l s r = entry_in (hashes_at l s) hash_entry s r
