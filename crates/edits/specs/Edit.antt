-- Edits of an image: new bytes in place of some, new functions, new header words. 01, Strings and Bodies.
-- docs/FORMAT.md: Packing, Relocation, Body patches.
use Rattle.std.specs.Prelude.{Bool, not, List, [], ◌∷◌, ◌++◌, ℕ, zero, suc, ◌+◌, eqb, take, drop}
use Rattle.std.proofs.lemmas.List.Edits.{sets}
use Rattle.bits.specs.Choice.{pick, either}
use Rattle.format.specs.declared.Field.{Field}
use Rattle.format.specs.declared.Layout.{Layout}
use Rattle.format.specs.declared.Layout.TheVariants.{Modern, Legacy}
use Rattle.format.specs.Table as table
use Rattle.format.specs.Record.{with_value, pointer, put_pointer}
use Rattle.format.specs.Number.{bytes_for}
use Rattle.image.specs.Sections.{functions_in, record_at}
use Rattle.image.specs.Functions.{Func, record_in}

-- the bytes from a to b replaced
unfoldable pub splice : ℕ → ℕ → List ℕ → List ℕ → List ℕ
splice a b new s = take a s ++ (new ++ drop b s)

-- bytes at a place
pub record Write : Type 0 where
  pub place : ℕ
  pub bytes : List ℕ

-- a number in a field, whose place is counted from p on
abbrev pub put_from : ℕ → Field → ℕ → Write
put_from p f x = record { place = p + f.at; bytes = bytes_for f x }

-- a number in a header field, where it stands in a layout
abbrev pub put_in : Layout → Field → ℕ → Write
put_in l f x = record { place = table.place_in l f; bytes = bytes_for f x }

-- one write after the other
unfoldable pub write_all : List Write → List ℕ → List ℕ
write_all [] s = s
write_all (w ∷ ws) s = write_all ws (sets s w.place w.bytes)

-- the writes of each number below n, in order
unfoldable pub groups : ℕ → (ℕ → List Write) → List Write
groups zero g = []
groups (suc n) g = groups n g ++ g n

-- ---- a function put into its record and its large header

-- a record without a large header
unfoldable pub put_small : Layout → Func → ℕ → ℕ
put_small Modern f n = with_value table.modern_size f.size (with_value table.modern_offset f.begin n)
put_small (Legacy big sources) f n =
    with_value table.legacy_info f.info (with_value table.legacy_size f.size (with_value table.legacy_offset f.begin n))

-- a record with one: a rebuild writes every large pointer, whole; a body patch only one that moves
unfoldable pub pointed : Layout → Bool → ℕ → ℕ → ℕ
pointed l whole p n = pick (either whole (not (eqb p (pointer l n)))) (put_pointer l p n) n

abbrev pub put_record : Layout → Bool → Func → ℕ → ℕ
put_record l whole f n = pick f.large (pointed l whole f.ptr n) (put_small l f n)

-- the words of a large header
unfoldable pub put_header : Layout → Func → List Write
put_header Modern f = put_from f.ptr table.large_offset f.begin ∷ put_from f.ptr table.modern_large_size f.size ∷ []
put_header (Legacy big sources) f =
    put_from f.ptr table.large_offset f.begin
    ∷ put_from f.ptr table.legacy_large_size f.size
    ∷ put_from f.ptr table.legacy_large_info f.info
    ∷ []

-- the record of function i, with the function that it is to be
unfoldable pub record_group : Layout → Bool → List ℕ → (ℕ → Func) → ℕ → List Write
record_group l whole s fs i =
    record { place = record_at l i; bytes = bytes_for (table.record_row l) (put_record l whole (fs i) (record_in l s i)) } ∷ []

-- its large header, if it has one
unfoldable pub header_group : Layout → (ℕ → Func) → ℕ → List Write
header_group l fs i = pick (fs i).large (put_header l (fs i)) []

-- ---- every patch is one edit: new bytes for those from a to b, then header words, then each record, then the words of each large header

unfoldable pub edit : Layout → Bool → ℕ → ℕ → List ℕ → (ℕ → Func) → List Write → List ℕ → List ℕ
edit l whole a b new fs ws s =
    write_all (groups (functions_in s) (header_group l fs))
    (write_all (groups (functions_in s) (record_group l whole s fs)) (write_all ws (splice a b new s)))

-- a function whose places move
abbrev pub move_func : (ℕ → ℕ) → Func → Func
move_func mv f = record { large = f.large; ptr = mv f.ptr; begin = mv f.begin; size = f.size; info = mv f.info }
