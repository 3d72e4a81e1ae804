-- Functions: their records, large headers and bodies. 01, Image rules: "Large header words: body offset at 0; size at 12 modern, 8
-- legacy; info at 16, legacy only".
-- docs/FORMAT.md: Function records, Large headers.
use Rattle.std.specs.Prelude.{Bool, true, false, List, ℕ}
use Rattle.bits.specs.Choice.{pick}
use Rattle.bits.specs.Bytes.{number_at, bytes_at}
use Rattle.format.specs.declared.Layout.{Layout}
use Rattle.format.specs.declared.Layout.TheVariants.{Modern, Legacy}
use Rattle.format.specs.Table as table
use Rattle.format.specs.Record.{value_of, is_large, pointer}
use Rattle.format.specs.Number.{number_from}
use Rattle.image.specs.Sections.{record_at}

-- whether a function has a large header, the pointer to it as a whole number, its body's start and size, and its info place; 0
-- where there is none
pub record Func : Type 0 where
  pub large : Bool
  pub ptr : ℕ
  pub begin : ℕ
  pub size : ℕ
  pub info : ℕ

-- a record without a large header
unfoldable pub small : Layout → ℕ → Func
small Modern n = record { large = false; ptr = 0; begin = value_of table.modern_offset n; size = value_of table.modern_size n; info = 0 }
small (Legacy big sources) n =
    record {
      large = false;
      ptr = 0;
      begin = value_of table.legacy_offset n;
      size = value_of table.legacy_size n;
      info = value_of
          table.legacy_info n;
    }

-- the large header at p
unfoldable pub header : Layout → ℕ → List ℕ → Func
header Modern p s =
    record { large = true; ptr = p; begin = number_from p table.large_offset s; size = number_from p table.modern_large_size s; info = 0 }
header (Legacy big sources) p s =
    record {
      large = true;
      ptr = p;
      begin = number_from p table.large_offset s;
      size = number_from p table.legacy_large_size s;
      info = number_from p table.legacy_large_info s;
    }

-- function record i, as one number
unfoldable pub record_in : Layout → List ℕ → ℕ → ℕ
record_in l s i = number_at s (record_at l i) (table.record_row l).width

-- function i of an image
unfoldable pub func_of : Layout → List ℕ → ℕ → Func
func_of l s i = let n = record_in l s i in pick (is_large l n) (header l (pointer l n) s) (small l n)

-- its body
unfoldable pub body_of : Layout → List ℕ → ℕ → List ℕ
body_of l s i = let f = func_of l s i in bytes_at s f.begin f.size
