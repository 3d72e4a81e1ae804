-- The relocation is the end of every edit: the header words, the bytes around those that are replaced, the rebuild and the resize.
use mathlib.Core.Path.{◌≡◌, refl, sym, ◌∙◌}
use mathlib.Core.List.{List, [], ◌∷◌, ◌++◌, append_assoc}
use Prim.Native.Nat.{ℕ, ◌+◌, ◌-◌, ◌≤◌}
use native.Mathlib.Nat.{zero-add}
use native.Mathlib.Omega.{arith}
use lib.ListN.{length, take, drop, length-drop, length-append}
use lib.Seq.{sets, length-take-le, take_all}
use Rattle.bits.specs.Bytes.{bytes_of}
use Rattle.bits.proofs.WriteLaws.{sets_append, sets_all, sets_comm}
use Rattle.format.specs.declared.Layout.{Layout}
use Rattle.format.specs.Table as table
use Rattle.format.specs.Number.{with_number}
use Rattle.image.specs.Sections.{functions_in, strings_in, debug_in, small_at, tail_at}
use Rattle.image.specs.Functions.{func_of}
use Rattle.edits.specs.Edit.{splice, write_all, groups, edit}
use Rattle.edits.specs.Packing.{Packed}
use Rattle.edits.specs.Rebuild.{overs, region, padded, new_tail, rebuild, resize}
use Rattle.image.proofs.PlaceLaws.{debug_wide, ordered}
use Rattle.relocate.specs.declared.Cause.TheVariants.{Strings, Body}
use Rattle.relocate.specs.declared.Move.{Move}
use Rattle.relocate.specs.Relocate.{moved_place, count_words, debug_word, function_group, relocated, around, Movable}
use Rattle.relocate.proofs.GroupLaws.{functions_apart}

-- ---- words of the header

pub counts_put : (o o₁ o₂ : List ℕ) (x y : ℕ) → o₁ ≡ with_number table.overflow_count x o
    → o₂ ≡ with_number table.storage_size y o₁
    → o₂ ≡ write_all (count_words x y) o
unfolding write_all
counts_put o o₁ o₂ x y h k = rw (← h) k

-- the debug offset x, where it goes, and the word put there
pub record DebugPut (l : Layout) (s : List ℕ) (m : Move) (at x d : ℕ) (o o₁ : List ℕ) : Type 0 where
  pub place : at ≡ table.place_in l (table.debug_row l)
  pub offset : x ≡ debug_in l s
  pub goes : d ≡ moved_place m x
  pub word : o₁ ≡ sets o at (bytes_of 4 d)

pub debug-put : (l : Layout) (s : List ℕ) (m : Move) (at x d : ℕ) (o o₁ : List ℕ) → DebugPut l s m at x d o o₁
    → o₁ ≡ write_all (debug_word l s m ∷ []) o
unfolding write_all
debug-put l s m at x d o o₁ put = rw (← put.offset, ← put.goes, ← put.place, debug_wide l) put.word

-- ---- the relocation, as code goes through it

-- image and buffer hold a header
pub header_there : (l : Layout) (s : List ℕ) (m : Move) (room : ℕ) → Movable l s m room
    → (table.header_length ≤ length s) × (table.header_length ≤ room)
header_there l s m room ok =
    let o = ordered l s in
    (omega (arith, ok.fits.room, o.kinds, o.hashes, o.small, o.over, o.storage, o.tail), omega (arith, ok.records, o.kinds))

-- the debug word is written, then n functions one by one
pub record OneByOne (l : Layout) (s : List ℕ) (m : Move) (n : ℕ) (o o₁ o₂ : List ℕ) : Type 0 where
  pub all : n ≡ functions_in s
  pub debug : o₁ ≡ write_all (debug_word l s m ∷ []) o
  pub functions : o₂ ≡ write_all (groups n (function_group l s m)) o₁

pub relocated-is : (l : Layout) (s : List ℕ) (m : Move) (room n : ℕ) → Movable l s m room → (o o₁ o₂ : List ℕ)
    → OneByOne l s m n o o₁ o₂
    → o₂ ≡ relocated l s m o
unfolding relocated
relocated-is l s m room n ok o o₁ o₂ by = rw (← by.debug) (by.functions ∙ rw by.all (functions_apart l s m room ok o₁))

-- ---- the bytes around those that are replaced

-- bytes for those from a to b of an image, in a buffer of just the new length
pub record Replaces (a b : ℕ) (new s o : List ℕ) : Type 0 where
  pub order : a ≤ b
  pub most : b ≤ length s
  pub fits : length o ≡ length s - b + (a + length new)

module _ (a b : ℕ) (new s o : List ℕ) (ok : Replaces a b new s o) where
  -- and those that replace them
  pub around_filled : sets (around a b (a + length new) s o) a new ≡ splice a b new s
  unfolding around splice
  around_filled =
      let t : length (take a s) ≡ a = length-take-le a s (omega (arith, ok.order, ok.most)) in
      let p : length (take a s ++ new) ≡ a + length new = length-append (take a s) new ∙ rw t in
      let q : length (take a s ++ new ++ drop b s) ≡ length o
      = length-append (take a s ++ new) (drop b s) ∙ rw (p, length-drop) (omega (arith, ok.most, ok.fits)) in
      let c : sets (sets o 0 (take a s)) a new ≡ sets o 0 (take a s ++ new) = sym (sets_append (take a s) new o 0 ∙ rw (zero-add, t)) in
      let d : sets (sets o 0 (take a s ++ new)) (a + length new) (drop b s) ≡ sets o 0 (take a s ++ new ++ drop b s)
      = sym (sets_append (take a s ++ new) (drop b s) o 0 ∙ rw (zero-add, p)) in
      sets_comm new (drop b s) (sets o 0 (take a s)) a (a + length new) (omega arith)
      ∙ rw c (d ∙ sets_all (take a s ++ new ++ drop b s) o q ∙ append_assoc (take a s) new (drop b s))

  pub spliced_is : (o₁ o₂ : List ℕ) → o₁ ≡ around a b (a + length new) s o → o₂ ≡ sets o₁ a new
      → o₂ ≡ splice a b new s
  spliced_is o₁ o₂ h k = k ∙ rw h around_filled

pub around-is : (a b to : ℕ) (s o o₁ o₂ : List ℕ) → b ≤ length s → o₁ ≡ sets o 0 (take (a - 0) s)
    → o₂ ≡ sets o₁ to (take (length s - b) (drop b s)) → o₂ ≡ around a b to s o
unfolding around
around-is a b to s o o₁ o₂ h j k =
    let e : a - 0 ≡ a = omega arith in
    k ∙ rw (j, e, take_all (length s - b) (drop b s) (rw length-drop (omega arith)))

-- ---- a rebuild and a resize are a splice and its relocation

-- the strings packed anew: what stood in the tail goes behind them
abbrev pub rebuilding : Layout → Packed → List ℕ → Move
rebuilding l ps s = record { from = tail_at l s; to = new_tail l ps s; cause = Strings }

pub rebuild-is : (l : Layout) (ps : Packed) (s : List ℕ)
    → relocated l s (rebuilding l ps s)
    (write_all (count_words (overs ps.place (strings_in s)) (length ps.store))
    (splice (small_at l s) (tail_at l s) (padded (small_at l s) (region (strings_in s) ps)) s)) ≡ rebuild l ps s
unfolding relocated rebuild edit write_all
rebuild-is l ps s = refl

-- a body of another size: what stood at or past the old one's end goes behind the new one
abbrev pub resizing : Layout → ℕ → List ℕ → List ℕ → Move
resizing l id body s = record {
  from = (func_of l s id).begin + (func_of l s id).size;
  to = (func_of l s id).begin + length body;
  cause = Body id
      (length body);
}

pub resize-is : (l : Layout) (id : ℕ) (body s : List ℕ)
    → relocated l s (resizing l id body s) (splice (func_of l s id).begin ((func_of l s id).begin + (func_of l s id).size) body s) ≡ resize
    l id body s
unfolding relocated resize edit
resize-is l id body s = refl
