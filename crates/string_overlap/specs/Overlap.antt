-- Strings that share bytes of storage. 01, Strings: "Overlap is start < other end and other start < end".
-- docs/FORMAT.md: String patches.
use Rattle.std.specs.Prelude.{Bool, not, List, ℕ, zero, suc, ◌+◌, ◌<◌, leb, ltb, eqb}
use Rattle.bits.specs.Choice.{both, implies, all_below}
use Rattle.format.specs.declared.Layout.{Layout}
use Rattle.format.specs.Entry.{Place}
use Rattle.image.specs.Sections.{strings_in}
use Rattle.image.specs.Strings.{size_of, place_at}
use Rattle.string_tables.specs.declared.Place as string

-- a place of the code whose numbers are words, so that no sum wraps
abbrev pub Low : string.Place → Type 0
Low q = (q.at < 4294967296) × (q.count < 4294967296)

-- "start < other end and other start < end"
abbrev pub overlap : Place → Place → Bool
overlap p q = both (ltb p.at (q.at + size_of q)) (ltb q.at (p.at + size_of p))

-- the entry of j is that of id, or does not overlap it
unfoldable pub is_apart : Layout → List ℕ → ℕ → ℕ → Bool
is_apart l s id j = implies (not (eqb j id)) (not (overlap (place_at l s id) (place_at l s j)))

-- "no other entry overlaps"
unfoldable pub is_alone : Layout → List ℕ → ℕ → Bool
is_alone l s id = all_below (strings_in s) (is_apart l s id)

-- ---- strings in a row: each starts where the one before it ends, or behind that

-- where the strings before string i end
abbrev pub end_before : Layout → List ℕ → ℕ → ℕ
end_before l s zero = 0
end_before l s (suc i) = (place_at l s i).at + size_of (place_at l s i)

abbrev pub starts_behind : Layout → List ℕ → ℕ → Bool
starts_behind l s i = leb (end_before l s i) (place_at l s i).at

unfoldable pub are_in_row : Layout → List ℕ → Bool
are_in_row l s = all_below (strings_in s) (starts_behind l s)
