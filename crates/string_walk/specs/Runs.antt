-- The runs of kinds, one by one. 01: "kinds cover the ids in order".
-- docs/FORMAT.md: Kinds.
use Rattle.std.specs.Prelude.{◌≡◌, false, List, ℕ, zero, suc, ◌-◌, ◌≤◌, None, Option, Some}
use Rattle.bits.specs.Choice.{pick}
use Rattle.image.specs.Sections.{kinds_in}
use Rattle.image.specs.Kinds.{kind_in, is_identifier_run, covered, identified}
use Rattle.sections.specs.declared.Places.{Places}
use Rattle.string_walk.specs.declared.Run.{Run}

-- the last of the first n kinds: where the ids end that it covers, whether they are identifiers, and how many there are up to that end
unfoldable pub run_at : (ℕ → ℕ) → ℕ → Run
run_at w zero = record { count = 0; end = 0; identifier = false; identifiers = 0 }
run_at w (suc n) =
    record { count = suc n; end = covered w (suc n); identifier = is_identifier_run (w n); identifiers = identified w (suc n) }

-- and where they start
abbrev pub start_at : (ℕ → ℕ) → ℕ → ℕ
start_at w zero = 0
start_at w (suc n) = covered w n

-- a run is one of an image's, or the start of a pass over them
pub record RunOf (p : Places) (s : List ℕ) (r : Run) : Type 0 where
  pub is : r ≡ run_at (kind_in p.layout s) r.count
  pub most : r.count ≤ kinds_in s

-- its ids start at or before an id
abbrev pub Reaches : Places → List ℕ → Run → ℕ → Type 0
Reaches p s r id = start_at (kind_in p.layout s) r.count ≤ id

-- the rank of an id that a run covers: the identifiers up to its end, less those from the id on
abbrev pub rank_in_run : Run → ℕ → Option ℕ
rank_in_run r id = pick r.identifier (Some (r.identifiers - (r.end - id))) None
