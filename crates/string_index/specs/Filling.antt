-- What the code that fills an index and reads it goes by.
-- docs/FORMAT.md: Index.
use Rattle.std.specs.Prelude.{◌≡◌, List, ℕ, zero, suc, ◌+◌, ◌≤◌, ◌<◌, length, set}
use Rattle.image.specs.Kinds.{is_identifier}
use Rattle.sections.specs.declared.Places.{Places}
use Rattle.string_walk.specs.Places.{Lies}
use Rattle.string_index.specs.declared.Entry.{Entry}
use Rattle.string_index.specs.declared.HeldString.{HeldString}
use Rattle.string_index.specs.Index.{entry_of, words_for, entry_in}

-- entry e at place i of each of three runs of n words
unfoldable pub put_entry : ℕ → ℕ → Entry → List ℕ → List ℕ
put_entry n i e x = set (set (set x i e.offset) (n + i) e.length) (n + n + i) e.flags

-- the first i entries, one after the other
unfoldable pub put_entries : ℕ → (ℕ → Entry) → ℕ → List ℕ → List ℕ
put_entries n e zero x = x
put_entries n e (suc i) x = put_entry n i (e i) (put_entries n e i x)

-- x is an index of an image: what it holds of each id is what the image has
pub record Indexed (p : Places) (s x : List ℕ) : Type 0 where
  pub long : words_for p.strings ≤ length x
  pub holds : (i : ℕ) → i < p.strings → entry_in x p.strings i ≡ entry_of p.layout s i

-- what such an index tells of string i: its place, as the walk gives it, and whether it is an identifier
pub record Tells (p : Places) (s : List ℕ) (i : ℕ) (r : HeldString) : Type 0 where
  pub place : Lies p s i r.place
  pub flag : r.identifier ≡ is_identifier p.layout s i
