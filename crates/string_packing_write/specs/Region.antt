-- The tables and the storage of a list of strings, written each from a place on. 01, Strings; 02, No. 2.
-- docs/FORMAT.md: Packing.
use Rattle.std.specs.Prelude.{Bool, List, ◌++◌, ℕ, ◌+◌, ◌≤◌, ◌<◌, length, replicate}
use Rattle.std.proofs.lemmas.List.Edits.{sets}
use Rattle.bits.specs.Choice.{pick, both}
use Rattle.bits.specs.Bytes.{bytes_at}
use Rattle.format.specs.declared.Mode.{Mode}
use Rattle.format.specs.Table as table
use Rattle.format.specs.Number.{entry_at, bytes_for}
use Rattle.format.specs.Entry.{Place, bit, is_over, small_word}
use Rattle.footer.specs.Finalize.{size_limit}
use Rattle.utf.specs.Utf8.{utf16, unit_bytes}
use Rattle.image.specs.Strings.{Str}
use Rattle.edits.specs.Packing.{Packed, gap_of, standing}
use Rattle.edits.specs.Rebuild.{smalls, pair_if_over, pairs, overs}
use Rattle.string_packing_write.specs.declared.RegionPlaces.{RegionPlaces}

-- entry i, of a place, with k overflow entries before it: its small entry, and its pair if it overflows
unfoldable pub put_entry : RegionPlaces → ℕ → ℕ → Place → List ℕ → List ℕ
put_entry to i k p out =
    sets (sets out (entry_at to.small_at table.small_entry i) (bytes_for table.small_entry (small_word k p)))
    (entry_at to.over_at table.overflow_entry k) (pair_if_over p)

-- string i, where those before it take `at` bytes of storage: its entry, and its bytes behind its gap
unfoldable pub put_string : Mode → RegionPlaces → ℕ → ℕ → ℕ → Str → List ℕ → List ℕ
put_string m to i k at t out =
    let gap = gap_of m t.wide at in
    sets (put_entry to i k (standing (at + gap) t) out) (to.storage_at + at) (replicate gap 0 ++ t.bytes)

-- n packed strings
unfoldable pub region_put : RegionPlaces → ℕ → Packed → List ℕ → List ℕ
region_put to n ps out =
    sets (sets (sets out to.small_at (smalls ps.place n)) to.over_at (pairs ps.place n)) to.storage_at
    ps.store

-- the tables do not meet, and there is room for all
pub record Roomy (to : RegionPlaces) (n : ℕ) (ps : Packed) (room : ℕ) : Type 0 where
  pub smalls : entry_at to.small_at table.small_entry n ≤ to.over_at
  pub pairs : entry_at to.over_at table.overflow_entry (overs ps.place n) ≤ to.storage_at
  pub store : to.storage_at + length ps.store ≤ room
  pub limit : to.storage_at + length ps.store ≤ size_limit

-- entry i, of a place, with k overflow entries before it: a buffer of n bytes holds it
pub record EntryFits (to : RegionPlaces) (i k : ℕ) (p : Place) (n : ℕ) : Type 0 where
  pub small : entry_at to.small_at table.small_entry i + (table.small_entry).width ≤ n
  pub pair : entry_at to.over_at table.overflow_entry (k + bit (is_over p)) ≤ n
  -- the sums are exact
  pub small_low : to.small_at < 1099511627776
  pub over_low : to.over_at < 1099511627776
  pub few : i < 4294967296
  pub few_over : k < 4294967296

-- string i, where those before it take `at` bytes of storage and k overflow entries: a buffer of n bytes holds it
pub record StringFits (m : Mode) (to : RegionPlaces) (i k at : ℕ) (t : Str) (n : ℕ) : Type 0 where
  pub entry : EntryFits to i k (standing (at + gap_of m t.wide at) t) n
  pub store : to.storage_at + (at + gap_of m t.wide at) + length t.bytes ≤ n
  pub limit : to.storage_at + (at + gap_of m t.wide at) + length t.bytes ≤ size_limit

-- ---- the bytes of a string

-- a part of one of two inputs: the value for the new string, else n bytes of the image
unfoldable pub source_of : Bool → List ℕ → List ℕ → ℕ → ℕ → List ℕ
source_of new image value at n = pick new value (bytes_at image at n)

-- the value's UTF-16 units where the new string is wide
unfoldable pub stored_bytes : Bool → Bool → List ℕ → List ℕ → ℕ → ℕ → List ℕ
stored_bytes new wide image value at n = pick (both new wide) (unit_bytes (utf16 value)) (source_of new image value at n)
