-- The rebuild of an image's strings, and the replacement of a body by one of another length. 01, Strings and Bodies.
-- docs/FORMAT.md: Packing, Relocation, Body patches.
use Rattle.std.specs.Prelude.{true, false, List, [], ◌∷◌, ◌++◌, ℕ, zero, suc, ◌+◌, eqb, length, replicate}
use Rattle.bits.specs.Choice.{pick, sum_below}
use Rattle.bits.specs.Bytes.{zeros_to4}
use Rattle.format.specs.declared.Layout.{Layout}
use Rattle.format.specs.Table as table
use Rattle.format.specs.Number.{bytes_for, with_number}
use Rattle.format.specs.Entry.{Place, bit, is_over, small_word}
use Rattle.format.specs.Move.{moved}
use Rattle.image.specs.Sections.{strings_in, debug_in, small_at, tail_at}
use Rattle.image.specs.Functions.{Func, func_of}
use Rattle.edits.specs.Edit.{put_from, put_in, edit, move_func}
use Rattle.edits.specs.Packing.{Packed}

-- ---- the tables of n places: p i is the place of string i

-- how many of the first n strings go to the overflow table
unfoldable pub overs : (ℕ → Place) → ℕ → ℕ
overs p n = sum_below n (λ i. bit (is_over (p i)))

-- the small entries
unfoldable pub smalls : (ℕ → Place) → ℕ → List ℕ
smalls p zero = []
smalls p (suc i) = smalls p i ++ bytes_for table.small_entry (small_word (overs p i) (p i))

-- the overflow pairs, of the strings that have one
unfoldable pub pair_of : Place → List ℕ
pair_of p = with_number table.overflow_length p.count (with_number table.overflow_offset p.at (replicate (table.overflow_entry).width 0))

abbrev pub pair_if_over : Place → List ℕ
pair_if_over p = pick (is_over p) (pair_of p) []

unfoldable pub pairs : (ℕ → Place) → ℕ → List ℕ
pairs p zero = []
pairs p (suc i) = pairs p i ++ pair_if_over (p i)

-- small table, overflow table and storage of n strings
unfoldable pub region : ℕ → Packed → List ℕ
region n q = smalls q.place n ++ (pairs q.place n ++ q.store)

-- "zeros to a multiple of 4", for bytes that start at a
unfoldable pub padded : ℕ → List ℕ → List ℕ
padded a bs = bs ++ zeros_to4 (a + length bs)

-- ---- the rebuild of an image with packed strings: "The words at 56 and 60 become the new overflow count and storage size"; what
-- lies in the tail moves

-- the tail's new start
abbrev pub new_tail : Layout → Packed → List ℕ → ℕ
new_tail l q s = small_at l s + length (padded (small_at l s) (region (strings_in s) q))

unfoldable pub rebuild : Layout → Packed → List ℕ → List ℕ
rebuild l q s =
    let mv = moved (tail_at l s) (new_tail l q s) in
    edit l true (small_at l s) (tail_at l s) (padded (small_at l s) (region (strings_in s) q)) (λ i. move_func mv (func_of l s i))
    (put_from 0 table.overflow_count (overs q.place (strings_in s))
    ∷ put_from 0 table.storage_size (length q.store)
    ∷ put_in l (table.debug_row l) (mv (debug_in l s))
    ∷ [])
    s

-- ---- the body of function i replaced: what lies at or past the threshold, the old body's end, moves

abbrev pub resized : (ℕ → ℕ) → ℕ → Func → Func
resized mv n f = record { large = f.large; ptr = mv f.ptr; begin = f.begin; size = n; info = mv f.info }

unfoldable pub resize : Layout → ℕ → List ℕ → List ℕ → List ℕ
resize l i body s =
    let f = func_of l s i in
    let mv = moved (f.begin + f.size) (f.begin + length body) in
    edit l false f.begin (f.begin + f.size) body
    (λ j. pick (eqb j i) (resized mv (length body) (func_of l s j)) (move_func mv (func_of l s j)))
    (put_in l (table.debug_row l) (mv (debug_in l s)) ∷ [])
    s
