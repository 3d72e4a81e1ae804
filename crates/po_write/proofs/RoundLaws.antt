-- A file that is written of an image is read back. 02, No. 1: "The list of pairs read from a file that we wrote, before any is set aside,
-- has those same msgids in that order."
use mathlib.Core.Path.{◌≡◌, refl, ap}
use mathlib.Core.Bool.{Bool, true, false, not}
use mathlib.Core.Logic.{inl, inr}
use mathlib.Core.List.{List, [], ◌∷◌, ◌++◌, map, append-nil}
use Prim.Native.Nat.{ℕ, zero, suc, ◌≤◌, ◌<◌}
use native.Mathlib.Nat.{not-suc-le-zero}
use native.Mathlib.Omega.{arith}
use borrow.Author.Tests.{not-true}
use lib.ListN.{length, get_or, length-append, get_or-append}
use lib.Seq.{get_or-append_seam}
use Rattle.bits.specs.Choice.{pick, either}
use Rattle.bits.proofs.TestLaws.{below, both_1, all_at, all_of}
use Rattle.bits.proofs.ListLaws.{AllBelow}
use Rattle.format.specs.declared.Layout.{Layout}
use Rattle.footer.specs.Footer.{same}
use Rattle.utf.specs.Utf16.{utf8_of}
use Rattle.po_pairs.specs.Pairs.{different, is_new, untranslated, id_of, pairs, read_file}
use Rattle.po_pairs.proofs.UnitRoundLaws.{EachValid, read_back_units}
use Rattle.image.specs.Sections.{strings_in}
use Rattle.image.specs.Kinds.{is_identifier}
use Rattle.po_strings.proofs.PointLaws.{held_valid}
use Rattle.po_strings.proofs.StringLaws.{string_below}
use Rattle.po_write.specs.Strings.{value_of, is_offered, is_first, is_written, written_at, written_to}
use Rattle.po_write.specs.File.{file_to, po_of}
use Rattle.po_write.proofs.FirstLaws.{written_plain, written_held}

-- ---- values of which each is valid, one more

valid_append : (a b : List (List ℕ)) → EachValid a → EachValid b → EachValid (a ++ b)
valid_append [] b h g = g
valid_append (v ∷ a) b h g = (h.0, valid_append a b h.1 g)

-- ---- values of which each differs from those before it, one more

none-different : different [] ≡ true
unfolding different
none-different = all_of (is_new (λ j. get_or [] j [])) 0 (λ j k. absurd (not-suc-le-zero k))

-- each of some values is another one
abbrev Others : List (List ℕ) → List ℕ → Type 0
Others vs v = (i : ℕ) → i < length vs → same (get_or vs i []) v ≡ false

module _ (vs : List (List ℕ)) (v : List ℕ) where
  at_old : (i : ℕ) → i < length vs → get_or (vs ++ (v ∷ [])) i [] ≡ get_or vs i []
  at_old i h = get_or-append vs (v ∷ []) [] i h

  at_last : get_or (vs ++ (v ∷ [])) (length vs) [] ≡ v
  at_last = get_or-append_seam vs v [] []

  more_different : different vs ≡ true → Others vs v → different (vs ++ (v ∷ [])) ≡ true
  unfolding different
  more_different h o =
      all_of (is_new (λ j. get_or (vs ++ (v ∷ [])) j [])) (length (vs ++ (v ∷ []))) (λ j k.
      elim (below j (length vs) (omega (arith, length-append vs (v ∷ [])))) [
        | inl q ↦ all_of _ j (λ i g. rw (q, at_last, at_old i (omega arith), o i (omega arith)))
        | inr l ↦ all_of _ j (λ i g. rw (at_old j l, at_old i (omega arith))
            (all_at (λ i. not (same (get_or vs i []) (get_or vs j []))) j i (all_at (is_new (λ j. get_or vs j [])) (length vs) j h l) g))
      ])

  more_others : (w : List ℕ) → Others vs w → same v w ≡ false → Others (vs ++ (v ∷ [])) w
  more_others w o e i h =
      elim (below i (length vs) (omega (arith, length-append vs (v ∷ [])))) [
        | inl q ↦ rw (q, at_last) e
        | inr l ↦ rw (at_old i l) (o i l)
      ]

-- ---- the values that are written

module _ (l : Layout) (s : List ℕ) where
  -- a plain string before a first one has another value
  first_other : (i j : ℕ) → j < i → is_first l s i ≡ true → is_identifier l s j ≡ false
      → same (value_of l s j) (value_of l s i) ≡ false
  unfolding is_first
  first_other i j h f p =
      not-true (same (value_of l s j) (value_of l s i))
      (rw p at (all_at (λ k. either (is_identifier l s k) (not (same (value_of l s k) (value_of l s i)))) i j f h))

  -- so have those that are written of the strings before it
  written_others : (n i : ℕ) → n ≤ i → is_first l s i ≡ true → Others (written_to l s n) (value_of l s i)
  unfolding written_to written_at
  written_others zero i h f = λ k g. absurd (not-suc-le-zero g)
  written_others (suc n) i h f = go (is_written l s n) refl (written_others n i (omega arith) f)
    where
      go : (t : Bool) → is_written l s n ≡ t → Others (written_to l s n) (value_of l s i)
          → Others (written_to l s n ++ pick t (value_of l s n ∷ []) []) (value_of l s i)
      go true e o =
          more_others (written_to l s n) (value_of l s n) (value_of l s i) o (first_other i n h f (written_plain l s n e))
      go false e o = rw (append-nil (written_to l s n)) o

  written_first : (n : ℕ) → is_written l s n ≡ true → is_first l s n ≡ true
  unfolding is_written
  written_first n h = both_1 (is_offered l s n) (is_first l s n) h

  pub written-different : (n : ℕ) → different (written_to l s n) ≡ true
  unfolding written_to written_at
  written-different zero = none-different
  written-different (suc n) = go (is_written l s n) refl (written-different n)
    where
      go : (t : Bool) → is_written l s n ≡ t → different (written_to l s n) ≡ true
          → different (written_to l s n ++ pick t (value_of l s n ∷ []) []) ≡ true
      go true e d =
          more_different (written_to l s n) (value_of l s n) d (written_others n n (omega arith) (written_first n e))
      go false e d = rw (append-nil (written_to l s n)) d

  module _ (bytes : AllBelow 256 s) where
    value_valid : (i : ℕ) → is_written l s i ≡ true → EachValid (value_of l s i ∷ [])
    unfolding value_of
    value_valid i h =
        let v = held_valid (value_of l s i) (written_held l s i h) in
        ((string_below l s i bytes, v.0, v.1), tt)

    pub written_valid : (n : ℕ) → EachValid (written_to l s n)
    unfolding written_to written_at
    written_valid zero = tt
    written_valid (suc n) = valid_append (written_to l s n) _ (written_valid n) (go (is_written l s n) refl)
      where
        go : (t : Bool) → is_written l s n ≡ t → EachValid (pick t (value_of l s n ∷ []) [])
        go true e = value_valid n e
        go false e = tt

    -- the pairs of the file: the values that are written, as UTF-8, each with an empty msgstr
    pub file_read : read_file (po_of l s) ≡ pairs (map untranslated (map utf8_of (written_to l s (strings_in s))))
    unfolding po_of file_to
    file_read =
        read_back_units (written_to l s (strings_in s)) (written_valid (strings_in s)) (written-different (strings_in s))

-- their msgids are those values, in that order
pub msgids_back : (vs : List (List ℕ)) → map id_of (map untranslated vs) ≡ vs
msgids_back [] = refl
msgids_back (v ∷ vs) = ap (λ (ws : List (List ℕ)). v ∷ ws) (msgids_back vs)
