-- The relocation that every patch ends in: what moves, and what is written for it. 01, Strings: "Delta, the tail's move, is added
-- to every body offset, large pointer, info place and debug offset"; 01, Bodies: "an offset, pointer, info or body place at or
-- past the threshold moves by delta".
-- docs/FORMAT.md: Relocation.
use Rattle.std.specs.Prelude.{◌≡◌, Bool, true, false, List, [], ◌∷◌, ◌++◌, ℕ, ◌+◌, ◌-◌, ◌^◌, ◌≤◌, ◌<◌, eqb, take, drop}
use Rattle.std.proofs.lemmas.List.Edits.{sets}
use Rattle.bits.specs.Choice.{pick}
use Rattle.format.specs.declared.Layout.{Layout}
use Rattle.format.specs.Table as table
use Rattle.format.specs.Move.{moved}
use Rattle.footer.specs.Finalize.{size_limit}
use Rattle.image.specs.Sections.{functions_in, debug_in, kinds_at}
use Rattle.image.specs.Functions.{Func, func_of}
use Rattle.image.specs.Admission.{headers_in}
use Rattle.edits.specs.Edit.{Write, put_from, put_in, write_all, groups, record_group, header_group, move_func}
use Rattle.edits.specs.Fit.{FitsPlaces}
use Rattle.edits.specs.Rebuild.{resized}
use Rattle.sections.specs.Places.{Fits}
use Rattle.relocate.specs.declared.Cause.{Cause}
use Rattle.relocate.specs.declared.Cause.TheVariants.{Strings, Body}
use Rattle.relocate.specs.declared.Move.{Move}

-- where a place goes
abbrev pub moved_place : Move → ℕ → ℕ
moved_place m = moved m.from m.to

-- "In an overflowed legacy record bits 0..24 and 64..88 are rewritten whole, at delta 0 too; a body patch does so only where it
-- moves the pointer"
abbrev pub writes_all : Cause → Bool
writes_all Strings = true
writes_all (Body id size) = false

-- function i after the patch; a patched body stays where it starts and has its new size
abbrev pub func_for : (ℕ → ℕ) → Cause → ℕ → Func → Func
func_for mv Strings i f = move_func mv f
func_for mv (Body id size) i f = pick (eqb i id) (resized mv size f) (move_func mv f)

abbrev pub func_after : Layout → List ℕ → Move → ℕ → Func
func_after l s m i = func_for (moved_place m) m.cause i (func_of l s i)

-- ---- what is written

-- the counts of the header that a rebuild changes
abbrev pub count_words : ℕ → ℕ → List Write
count_words overflows storage = put_from 0 table.overflow_count overflows ∷ put_from 0 table.storage_size storage ∷ []

-- the debug offset
abbrev pub debug_word : Layout → List ℕ → Move → Write
debug_word l s m = put_in l (table.debug_row l) (moved_place m (debug_in l s))

-- function i: its record, and the words of its large header
abbrev pub function_group : Layout → List ℕ → Move → ℕ → List Write
function_group l s m i = record_group l (writes_all m.cause) s (func_after l s m) i ++ header_group l (func_after l s m) i

-- the debug offset, then every record, then the words of every large header, over a buffer
unfoldable pub relocated : Layout → List ℕ → Move → List ℕ → List ℕ
relocated l s m o =
    write_all (groups (functions_in s) (header_group l (func_after l s m)))
    (write_all (groups (functions_in s) (record_group l (writes_all m.cause) s (func_after l s m))) (write_all (debug_word l s m ∷ []) o))

-- the bytes before a at the front of a buffer, those from b on at another place of it
unfoldable pub around : ℕ → ℕ → ℕ → List ℕ → List ℕ → List ℕ
around a b to s o = sets (sets o 0 (take a s)) to (drop b s)

-- the two parts of an image of n bytes have room in a buffer
pub record Copied (a b to n room : ℕ) : Type 0 where
  pub front : a ≤ n
  pub back : b ≤ n
  pub front_room : a ≤ room
  pub back_room : to + (n - b) ≤ room

-- ---- what it is asked for

-- an image whose large headers may be read, in a buffer that holds its records, and its large headers where they go; what is written
-- of each function, and the debug offset, fits where it is written
pub record Movable (l : Layout) (s : List ℕ) (m : Move) (room : ℕ) : Type 0 where
  pub fits : Fits l s
  pub headers : headers_in l s ≡ true
  pub past : kinds_at l s ≤ m.to
  pub most : m.to ≤ size_limit
  pub records : kinds_at l s ≤ room
  pub limit : room ≤ size_limit
  pub held : (i : ℕ) → i < functions_in s → (func_of l s i).large ≡ true
      → moved_place m (func_of l s i).ptr + (table.large_row l).width ≤ room
  pub writable : (i : ℕ) → i < functions_in s → FitsPlaces l (func_after l s m i)
  pub debug : moved_place m (debug_in l s) < 2 ^ 32
