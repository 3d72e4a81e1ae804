-- What a pass over the strings of an admitted image promises of each of them, and how it goes from string to string.
-- docs/FORMAT.md: Strings, Overflow.
use Rattle.std.specs.Prelude.{◌≡◌, List, ℕ, ◌+◌, ◌≤◌, ◌<◌, Ok, Err, Result}
use Rattle.image.specs.Strings.{place_at, size_of}
use Rattle.sections.specs.declared.Places.{Places}
use Rattle.sections.specs.Places.{Laid}
use Rattle.string_tables.specs.declared.Place.{Place}
use Rattle.string_tables.specs.Strings.{as_place}
use Rattle.string_walk.specs.declared.Counts.{Counts}
use Rattle.string_walk.specs.declared.Cursor.{Cursor}
use Rattle.string_walk.specs.declared.Run.{Run}
use Rattle.string_walk.specs.declared.Step.{Step}
use Rattle.string_walk.specs.declared.StringRecord.{StringRecord}
use Rattle.string_walk.specs.declared.Visited.{Visited}
use Rattle.string_walk.specs.declared.Location.{Location}
use Rattle.string_walk.specs.Records.{rank_in}
use Rattle.string_walk.specs.Runs.{RunOf, Reaches}
use Rattle.string_walk.specs.Walk.{visits, Walked}

-- q is the place of string i, and lies in storage, which ends before the tail
pub record Lies (p : Places) (s : List ℕ) (i : ℕ) (q : Place) : Type 0 where
  pub is : as_place q ≡ place_at p.layout s i
  pub count : q.count ≤ size_of (as_place q)
  pub stored : q.at + size_of (as_place q) ≤ p.storage_size
  pub before : p.storage_at + q.at + size_of (as_place q) ≤ p.tail

-- r is the record of string i: its place, where its bytes start in the image, and its rank (02, No. 5)
pub record Stands (p : Places) (s : List ℕ) (i : ℕ) (r : StringRecord) : Type 0 where
  pub place : Lies p s i r.place
  pub start : r.start ≡ p.storage_at + r.place.at
  pub rank : r.rank ≡ rank_in p.layout s i

-- the place of the string that a walk has come to; and what is visited with it
pub record StepOf (p : Places) (s : List ℕ) (c : Counts) (r : Step) : Type 0 where
  pub place : Lies p s c.small r.place
  pub walked : Walked p.layout s r.counts
  pub next : r.counts.small ≡ c.small + 1

-- ---- one string after the other

-- a run of kinds from which that of string id is found
pub record RunBefore (p : Places) (s : List ℕ) (from : Run) (id : ℕ) : Type 0 where
  pub laid : Laid p s
  pub known : id < p.strings
  pub run : RunOf p s from
  pub reached : Reaches p s from id

-- what a pass has visited
abbrev pub counts_of : Cursor → Counts
counts_of c = record { small = c.id; over = c.over }

-- a pass has come to a string: it has visited the entries before it, and reached no later kind
pub record CursorOf (p : Places) (s : List ℕ) (c : Cursor) : Type 0 where
  pub walked : Walked p.layout s (counts_of c)
  pub run : RunOf p s c.run
  pub reached : Reaches p s c.run c.id

-- the string that a pass has come to, and the cursor behind it
pub record VisitedOf (p : Places) (s : List ℕ) (c : Cursor) (r : Visited) : Type 0 where
  pub string : Stands p s c.id r.string
  pub next : CursorOf p s r.next
  pub id : r.next.id ≡ c.id + 1

-- ---- one string located

-- string id, its record, and what the walk to it visits; or the number n, where the image has no such string
abbrev pub Locates : Places → List ℕ → ℕ → ℕ → Result Location ℕ → Type 0
Locates p s id n (Ok r) = (r.id ≡ id) × (id < p.strings) × Stands p s id r.string × (r.counts ≡ visits p.layout s id)
Locates p s id n (Err m) = (m ≡ n) × (p.strings ≤ id)
