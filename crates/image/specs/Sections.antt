-- The header words of an image, and the places of its sections. 01, Image rules: "Sections follow each other from byte 128".
-- docs/FORMAT.md: Header, Sections.
use Rattle.std.specs.Prelude.{List, ℕ, ◌+◌}
pub use Rattle.bits.specs.Bytes.{up4}
use Rattle.format.specs.declared.Layout.{Layout}
use Rattle.format.specs.Table as table
use Rattle.format.specs.Number.{number_held, number_in, entry_at}

-- ---- counts and sizes, as the header has them

abbrev pub functions_in : List ℕ → ℕ
functions_in s = number_held table.function_count s

abbrev pub kinds_in : List ℕ → ℕ
kinds_in s = number_held table.kind_count s

abbrev pub identifiers_in : List ℕ → ℕ
identifiers_in s = number_held table.identifier_count s

abbrev pub strings_in : List ℕ → ℕ
strings_in s = number_held table.string_count s

abbrev pub overflows_in : List ℕ → ℕ
overflows_in s = number_held table.overflow_count s

abbrev pub storage_in : List ℕ → ℕ
storage_in s = number_held table.storage_size s

-- the debug offset
abbrev pub debug_in : Layout → List ℕ → ℕ
debug_in l s = number_in l (table.debug_row l) s

-- ---- sections: function records, kinds, identifier hashes, small table, overflow table, storage, tail

-- function record i
abbrev pub record_at : Layout → ℕ → ℕ
record_at l i = entry_at (table.record_row l).at (table.record_row l) i

unfoldable pub kinds_at : Layout → List ℕ → ℕ
kinds_at l s = record_at l (functions_in s)

unfoldable pub hashes_at : Layout → List ℕ → ℕ
hashes_at l s = entry_at (kinds_at l s) table.kind_entry (kinds_in s)

unfoldable pub small_at : Layout → List ℕ → ℕ
small_at l s = entry_at (hashes_at l s) table.hash_entry (identifiers_in s)

unfoldable pub over_at : Layout → List ℕ → ℕ
over_at l s = entry_at (small_at l s) table.small_entry (strings_in s)

unfoldable pub storage_at : Layout → List ℕ → ℕ
storage_at l s = entry_at (over_at l s) table.overflow_entry (overflows_in s)

-- "The tail starts at the end of storage rounded up to 4"
unfoldable pub tail_at : Layout → List ℕ → ℕ
tail_at l s = up4 (storage_at l s + storage_in s)
