-- The file of the first strings, one string more.
use Rattle.std.specs.Prelude.{Err, Ok}
use mathlib.Core.Path.{◌≡◌, refl, ap, ◌∙◌}
use mathlib.Core.Bool.{Bool, true, false}
use mathlib.Core.Logic.{inl, inr}
use mathlib.Core.List.{List, [], ◌++◌, map, map-append}
use Prim.Native.Nat.{ℕ, zero, suc, ◌+◌, ◌≤◌, ◌<◌}
use native.Mathlib.Numerals.{add-one}
use native.Mathlib.Omega.{arith}
use borrow.Author.Tests.{ltb-true, ltb-false}
use lib.Dec.{ltb}
use lib.ListN.{length, length-append}
use lib.Seq.{sets}
use Rattle.bits.specs.Choice.{pick}
use Rattle.bits.specs.Outcome.{made, roomed, Answers}
use Rattle.bits.proofs.TestLaws.{below}
use Rattle.bits.proofs.OutcomeLaws.{roomed_short, roomed-fits, told_all}
use Rattle.format.specs.declared.Layout.{Layout}
use Rattle.utf.specs.Utf16.{utf8_of}
use Rattle.po_text.specs.Written.{entry_of, file_of}
use Rattle.po_text.proofs.EscapeLaws.{file_append, file_one}
use Rattle.sections.specs.declared.Places.{Places}
use Rattle.sections.specs.Places.{Placed}
use Rattle.sections.proofs.SectionLaws.{sectioned}
use Rattle.po_write.specs.Strings.{value_of, is_written, written_at, written_to}
use Rattle.po_write.specs.File.{file_at, file_to, po_of, longest_file, room_for}

module _ (l : Layout) (s : List ℕ) where
  pub file-none : file_to l s 0 ≡ []
  unfolding file_to written_to file_of
  file-none = refl

  file-suc : (i : ℕ) → file_to l s (suc i) ≡ file_to l s i ++ file_at l s i
  unfolding file_to file_at written_to
  file-suc i =
      ap file_of (map-append utf8_of (written_to l s i) (written_at l s i))
      ∙ file_append (map utf8_of (written_to l s i)) (map utf8_of (written_at l s i))

  pub file_next : (i : ℕ) → file_to l s (i + 1) ≡ file_to l s i ++ file_at l s i
  file_next i = rw add-one (file-suc i)

  pub length_next : (i : ℕ) → length (file_to l s (i + 1)) ≡ length (file_to l s i) + length (file_at l s i)
  length_next i = ap length (file_next i) ∙ length-append (file_to l s i) (file_at l s i)

  -- a pair is there where its string is written
  pub pair_none : (i : ℕ) → is_written l s i ≡ false → file_at l s i ≡ []
  unfolding file_at written_at file_of
  pair_none i h = rw h

  pub pair_some : (i : ℕ) → is_written l s i ≡ true → file_at l s i ≡ entry_of (utf8_of (value_of l s i))
  unfolding file_at written_at
  pair_some i h = rw h (file_one (utf8_of (value_of l s i)))

  -- more strings make no shorter file
  pub length_most : (i n : ℕ) → i < n → length (file_to l s i) + length (file_at l s i) ≤ length (file_to l s n)
  length_most i zero h = absurd (omega arith)
  length_most i (suc n) h =
      let e : length (file_to l s (suc n)) ≡ length (file_to l s n) + length (file_at l s n)
      = ap length (file-suc n) ∙ length-append (file_to l s n) (file_at l s n) in
      elim (below i n h) [
        | inl q ↦ rw q (omega arith)
        | inr k ↦ omega (arith, length_most i n k)
      ]

-- all strings
pub file_all : (p : Places) (s : List ℕ) → Placed p s → file_to p.layout s p.strings ≡ po_of p.layout s
unfolding po_of
file_all p s h = rw (sectioned p s h).strings

-- ---- what the room does

module _ (room n : ℕ) where
  pub short_room : room < n → room_for room < n
  short_room h = go (ltb room longest_file) refl
    where
      go : (t : Bool) → ltb room longest_file ≡ t → pick t room longest_file < n
      go true e = h
      go false e = omega (arith, ltb-false room longest_file e)

  pub long-file : longest_file < n → room_for room < n
  long-file h = go (ltb room longest_file) refl
    where
      go : (t : Bool) → ltb room longest_file ≡ t → pick t room longest_file < n
      go true e = omega (arith, ltb-true room longest_file e)
      go false e = h

  pub fits-room : n ≤ room → n ≤ longest_file → n ≤ room_for room
  fits-room h g = go (ltb room longest_file)
    where
      go : (t : Bool) → n ≤ pick t room longest_file
      go true = h
      go false = g

module _ (new old : List ℕ) where
  pub no_room : room_for (length old) < length new → Answers (roomed (room_for (length old)) (made new)) (Err 13) old old
  no_room h = rw (roomed_short (room_for (length old)) new h) (refl, refl)

  pub in_room : (n : ℕ) (exit : List ℕ) → n ≡ length new → n ≤ length old → n ≤ longest_file → exit ≡ sets old 0 new
      → Answers (roomed (room_for (length old)) (made new)) (Ok n) old exit
  in_room n exit e h g w =
      rw (e, roomed-fits (room_for (length old)) new (fits-room (length old) (length new) (omega arith) (omega arith)))
      (told_all new old exit (omega arith) w)
