-- What admission promises, in propositions: the law `admitted` turns "not refused" into this record, and `not_refused` turns it back.
-- docs/FORMAT.md: Admission.
use Rattle.std.specs.Prelude.{◌≡◌, true, false, ◌≢◌, List, ℕ, ◌+◌, ◌≤◌, ◌<◌, length, get_or}
use Rattle.format.specs.declared.Layout.{Layout}
use Rattle.format.specs.Table as table
use Rattle.format.specs.Record.{value_of}
use Rattle.format.specs.Number.{number_held}
use Rattle.footer.specs.Footer.{footer_length}
use Rattle.footer.specs.Finalize.{size_limit}
use Rattle.image.specs.Sections.{functions_in, kinds_in, identifiers_in, strings_in, overflows_in, storage_in, debug_in}
use Rattle.image.specs.Sections.{storage_at, tail_at}
use Rattle.image.specs.Strings.{is_full, over_before, small_in, place_at, size_of}
use Rattle.image.specs.Kinds.{kind_in, covered, identified}
use Rattle.image.specs.Functions.{func_of}

-- w bytes from p and v bytes from q share none, in the form that arithmetic reads
abbrev pub Disjoint : ℕ → ℕ → ℕ → ℕ → Type 0
Disjoint p w q v = p < q + v → p + w ≤ q

-- n bytes from p start in the tail and end before the footer
abbrev pub InTail : Layout → List ℕ → ℕ → ℕ → Type 0
InTail l s p n = (tail_at l s ≤ p) × (p + n + footer_length ≤ length s)

pub record Admitted (l : Layout) (s : List ℕ) : Type 0 where
  pub bytes : (p : ℕ) → get_or s p 0 < 256
  pub least : table.header_length + footer_length ≤ length s
  pub most : length s ≤ size_limit
  pub magic : number_held table.magic s ≡ table.magic_number
  pub room : tail_at l s + footer_length ≤ length s
  -- kinds cover the ids
  pub covers : covered (kind_in l s) (kinds_in s) ≡ strings_in s
  pub identifiers : identified (kind_in l s) (kinds_in s) ≡ identifiers_in s
  -- the k-th overflow entry has index k
  pub overflows : over_before (small_in l s) (strings_in s) ≡ overflows_in s
  pub numbered : (i : ℕ) → i < strings_in s → is_full (small_in l s i) ≡ true
      → value_of table.entry_offset (small_in l s i) ≡ over_before (small_in l s) i
  -- each string lies in storage, each narrow byte is below 0x80
  pub stored : (i : ℕ) → i < strings_in s → (place_at l s i).at + size_of (place_at l s i) ≤ storage_in s
  pub narrow : (i : ℕ) → i < strings_in s → (place_at l s i).wide ≡ false → (j : ℕ) → j < (place_at l s i).count
      → get_or s (storage_at l s + (place_at l s i).at + j) 0 < 0x80
  -- each header, body, nonzero info and debug place lies in the tail
  pub header : (i : ℕ) → i < functions_in s → (func_of l s i).large ≡ true → InTail l s (func_of l s i).ptr (table.large_row l).width
  pub body : (i : ℕ) → i < functions_in s → InTail l s (func_of l s i).begin (func_of l s i).size
  pub info : (i : ℕ) → i < functions_in s → (func_of l s i).info ≢ 0 → InTail l s (func_of l s i).info 0
  pub debug : debug_in l s ≢ 0 → InTail l s (debug_in l s) 0
  -- header words share no byte with each other or with a body
  pub apart : (i j : ℕ) → i < functions_in s → j < functions_in s → i ≢ j → (func_of l s i).large ≡ true
      → (func_of l s j).large ≡ true
      → Disjoint (func_of l s i).ptr (table.large_row l).width (func_of l s j).ptr (table.large_row l).width
  pub clear : (i j : ℕ) → i < functions_in s → j < functions_in s → 0 < (func_of l s i).size → (func_of l s j).large ≡ true
      → Disjoint (func_of l s j).ptr (table.large_row l).width (func_of l s i).begin (func_of l s i).size
