-- What a record's fields hold after places move. 01, refusal 12: "a small record's moved body offset or moved info place over
-- 33,554,431; a small record's new size over 32,767 legacy, 16,383 modern".
-- docs/FORMAT.md: Relocation.
use Rattle.std.specs.Prelude.{◌≡◌, Bool, true, false, not, List, ℕ, ◌^◌, ◌<◌, leb}
use Rattle.bits.specs.Choice.{both, either, all_below}
use Rattle.format.specs.declared.Field.{Field}
use Rattle.format.specs.declared.Layout.{Layout}
use Rattle.format.specs.declared.Layout.TheVariants.{Modern, Legacy}
use Rattle.format.specs.Table as table
use Rattle.image.specs.Sections.{functions_in}
use Rattle.image.specs.Functions.{Func, func_of}

-- a number that a field has too few bits for
abbrev pub beyond : Field → ℕ → Bool
beyond f x = leb (2 ^ f.width) x

-- the offset and the size field of a record, 25 bits, and 14 modern or 15 legacy
abbrev pub offset_row : Layout → Field
offset_row Modern = table.modern_offset
offset_row (Legacy big sources) = table.legacy_offset

abbrev pub size_row : Layout → Field
size_row Modern = table.modern_size
size_row (Legacy big sources) = table.legacy_size

-- a function without a large header whose moved body offset or info place its record cannot hold
abbrev pub is_beyond : Layout → (ℕ → ℕ) → Func → Bool
is_beyond l mv f = both (not f.large) (either (beyond (offset_row l) (mv f.begin)) (beyond table.legacy_info (mv f.info)))

-- no function is such
unfoldable pub fields_fit : Layout → List ℕ → (ℕ → ℕ) → Bool
fields_fit l s mv = all_below (functions_in s) (λ i. not (is_beyond l mv (func_of l s i)))

-- ---- a function that can be written: what is to hold it has bits enough. 02, No. 8: "01 tests these sums before writing"

-- a record without a large header holds its body offset, its size and its info place
pub record FitsFields (l : Layout) (f : Func) : Type 0 where
  pub begin : f.begin < 2 ^ (offset_row l).width
  pub size : f.size < 2 ^ (size_row l).width
  pub info : f.info < 2 ^ (table.legacy_info).width

-- 32 bits hold its pointer, and each word of its large header
pub record FitsWords (f : Func) : Type 0 where
  pub ptr : f.ptr < 2 ^ 32
  pub begin : f.begin < 2 ^ 32
  pub size : f.size < 2 ^ 32
  pub info : f.info < 2 ^ 32

-- the one or the other, by its flag
pub record FitsPlaces (l : Layout) (f : Func) : Type 0 where
  pub as_small : f.large ≡ false → FitsFields l f
  pub as_large : f.large ≡ true → FitsWords f
