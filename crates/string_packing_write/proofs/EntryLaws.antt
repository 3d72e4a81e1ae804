-- The entry of a place and the bytes of a string, as the code writes them.
use mathlib.Core.Path.{◌≡◌, refl, ap, sym, ◌∙◌}
use mathlib.Core.Bool.{Bool, true, false}
use mathlib.Core.List.{List, ◌++◌}
use Prim.Native.Nat.{ℕ, ◌+◌, ◌≤◌}
use native.Mathlib.Nat.{add-zero}
use native.Mathlib.Omega.{arith}
use lib.ListN.{length, take, drop}
use lib.Seq.{sets}
use Rattle.bits.specs.Choice.{both}
use Rattle.bits.specs.Bytes.{bytes_of}
use Rattle.bits.proofs.ByteLaws.{length-bytes_of, bytes_at-take}
use Rattle.bits.proofs.WriteLaws.{sets_append}
use Rattle.format.specs.Table.{small_entry, overflow_entry, overflow_offset, overflow_length}
use Rattle.format.specs.Number.{entry_at, bytes_for}
use Rattle.format.specs.Entry.{Place, bit, entry, full, is_over, small_word}
use Rattle.edits.specs.Rebuild.{pair_of}
use Rattle.utf.specs.Utf8.{utf16, unit_bytes}
use Rattle.string_packing_write.specs.declared.RegionPlaces.{RegionPlaces}
use Rattle.string_packing_write.specs.Region.{put_entry, source_of, stored_bytes}

-- ---- entry i

-- a pair, word by word: nothing of the zeros that it is made from is left
pair_is : (p : Place) → pair_of p ≡ bytes_for overflow_offset p.at ++ bytes_for overflow_length p.count
unfolding pair_of bytes_of
pair_is p = refl

two_words : (out : List ℕ) (a : ℕ) (p : Place)
    → sets out a (pair_of p)
    ≡ sets (sets out (a + overflow_offset.at) (bytes_for overflow_offset p.at))
    (a + overflow_length.at) (bytes_for overflow_length p.count)
two_words out a p = rw (pair_is p, sets_append (bytes_of 4 p.at), length-bytes_of 4 p.at, add-zero)

-- the small entry i is written: a word at its place
pub record SmallPut (to : RegionPlaces) (i small w : ℕ) (out o1 : List ℕ) : Type 0 where
  pub place : small ≡ entry_at to.small_at small_entry i
  pub put : o1 ≡ sets out small (bytes_of 4 w)

-- pair k is written: its offset and its length, each at its place
pub record PairPut (to : RegionPlaces) (k pair : ℕ) (p : Place) (o1 o2 o3 : List ℕ) : Type 0 where
  pub place : pair ≡ entry_at to.over_at overflow_entry k
  pub offset : o2 ≡ sets o1 (pair + overflow_offset.at) (bytes_for overflow_offset p.at)
  pub count : o3 ≡ sets o2 (pair + overflow_length.at) (bytes_for overflow_length p.count)

-- an entry that overflows is a pair, and a small entry with the pair's number
pub record OverPut (to : RegionPlaces) (i k small w pair : ℕ) (p : Place) (out o1 o2 o3 : List ℕ) : Type 0 where
  pub word : w ≡ entry p.wide k full
  pub entered : SmallPut to i small w out o1
  pub paired : PairPut to k pair p o1 o2 o3

module _ (to : RegionPlaces) (k : ℕ) (p : Place) (r : Bool) (e : r ≡ is_over p) where
  pub pair_room : r ≡ true → (n : ℕ) → entry_at to.over_at overflow_entry (k + bit (is_over p)) ≤ n
      → entry_at to.over_at overflow_entry k + overflow_entry.width ≤ n
  pair_room t n h = let o : bit (is_over p) ≡ 1 = ap bit (sym e ∙ t) in omega arith

  pub put_over : (i small w pair : ℕ) (out o1 o2 o3 : List ℕ) → r ≡ true → OverPut to i k small w pair p out o1 o2 o3
      → o3 ≡ put_entry to i k p out
  unfolding put_entry small_word
  put_over i small w pair out o1 o2 o3 t h =
      let o : is_over p ≡ true = sym e ∙ t in
      h.paired.count ∙ rw (
        o,
        two_words,
        ← h.word,
        ← h.paired.place,
        ← h.entered.place,
        ← h.entered.put,
        ← h.paired.offset,
      )

  pub put_small : (i small : ℕ) (out o1 : List ℕ) → r ≡ false → SmallPut to i small (entry p.wide p.at p.count) out o1
      → o1 ≡ put_entry to i k p out
  unfolding put_entry small_word
  put_small i small out o1 t h =
      let o : is_over p ≡ false = sym e ∙ t in
      h.put ∙ rw (o, ← h.place)

-- ---- the bytes of a string

pub from_value : (new : Bool) (image value : List ℕ) (at n : ℕ) → new ≡ true → value ≡ source_of new image value at n
unfolding source_of
from_value new image value at n t = rw t

pub from_image : (new : Bool) (image value : List ℕ) (at n : ℕ) → new ≡ false → at + n ≤ length image
    → take n (drop at image) ≡ source_of new image value at n
unfolding source_of
from_image new image value at n t h = rw t (sym (bytes_at-take image n at h))

module _ (new wide : Bool) (image value : List ℕ) (at n : ℕ) (r : Bool) (e : r ≡ both new wide) where
  pub made_units : r ≡ true → unit_bytes (utf16 value) ≡ stored_bytes new wide image value at n
  unfolding stored_bytes
  made_units t = rw (← e, t)

  pub copied : r ≡ false → source_of new image value at n ≡ stored_bytes new wide image value at n
  unfolding stored_bytes
  copied t = rw (← e, t)
