-- A file that is written is read back: its pairs have the values that were written, in order. 02, No. 1: "The list of pairs read from a
-- file that we wrote, before any is set aside, has those same msgids in that order."
use mathlib.Core.Path.{◌≡◌, refl, ap, ◌∙◌}
use mathlib.Core.Bool.{Bool, true, false}
use mathlib.Core.List.{List, [], ◌∷◌, ◌++◌, map, append_assoc, append-nil}
use Prim.Native.Nat.{ℕ, zero, suc, ◌≤◌, ◌<◌}
use native.Mathlib.Nat.{not-suc-le-zero}
use native.Mathlib.Omega.{arith}
use borrow.Author.Tests.{eqb-true, ne_eqb, le-leb, leb-true}
use lib.Dec.{leb, eqb}
use lib.ListN.{length, get_or}
use Rattle.bits.specs.Choice.{both, either, all_below}
use Rattle.bits.proofs.TestLaws.{both_0, both_1, all_of}
use Rattle.text.specs.Text.{line_feed}
use Rattle.utf.specs.Utf8.{between, reading_of, is_utf8}
use Rattle.utf.proofs.PieceLaws.{utf8_from, utf8_behind, ascii-given, ascii_behind}
use Rattle.po_text.specs.Marks.{quote_mark, backslash, tab, msgid_mark, msgstr_mark}
use Rattle.po_text.specs.Written.{escape, escaped, can_write, writable, entry_end, entry_of, file_of}
use Rattle.po_lines.specs.declared.Kind.TheVariants.{Blank, Msgid, Msgstr}
use Rattle.po_lines.specs.Lines.{lines_of, last_of}
use Rattle.po_lines.specs.Quoted.{quote_next, given, quote_end, unescaped}
use Rattle.po_lines.specs.Kinds.{begins, is_printable, marked_as, kind_of, line_of, read_lines}
use Rattle.po_lines.proofs.LineLaws.{last_append, line_cut}
use Rattle.po_pairs.specs.declared.Stand.TheVariants.{Between}
use Rattle.po_pairs.specs.Order.{stand_after}
use Rattle.po_pairs.specs.Pairs.{continued, values_of, values_in, paired, untranslated, different, id_of, in_subset}
use Rattle.po_pairs.specs.Pairs.{pairs, read_file}
use Rattle.po_pairs.proofs.EscapeLaws.{escape_case, escape-is, escaped_utf8, escaped_end, escaped_text}

-- ---- bytes that may stand in a line

-- no byte below 32
abbrev Plain : List ℕ → Type 0
Plain [] = Unit {0}
Plain (b ∷ bs) = (32 ≤ b) × Plain bs

-- of bytes that are given, a test that computes
abbrev plain_test : List ℕ → Bool
plain_test [] = true
plain_test (b ∷ bs) = both (leb 32 b) (plain_test bs)

plain_given : (s : List ℕ) → plain_test s ≡ true → Plain s
plain_given [] h = tt
plain_given (b ∷ s) h = (leb-true 32 b (both_0 (leb 32 b) (plain_test s) h), plain_given s (both_1 (leb 32 b) (plain_test s) h))

plain_append : (a b : List ℕ) → Plain a → Plain b → Plain (a ++ b)
plain_append [] b h g = g
plain_append (x ∷ a) b h g = (h.0, plain_append a b h.1 g)

plain_at : (s : List ℕ) (i : ℕ) → i < length s → Plain s → 32 ≤ get_or s i 0
plain_at [] i k h = absurd (not-suc-le-zero k)
plain_at (b ∷ s) zero k h = h.0
plain_at (b ∷ s) (suc i) k h = plain_at s i (omega arith) h.1

plain_printable : (s : List ℕ) → Plain s → is_printable s ≡ true
unfolding is_printable
plain_printable s h = all_of (λ i. leb 32 (get_or s i 0)) (length s) (λ i k. le-leb 32 (get_or s i 0) (plain_at s i k h))

-- ---- the three lines of a pair

abbrev msgid_line : List ℕ → List ℕ
msgid_line v = msgid_mark ++ (escaped v ++ (quote_mark ∷ []))

abbrev msgstr_line : List ℕ
msgstr_line = msgstr_mark ++ (quote_mark ∷ [])

escape_plain : (b : ℕ) → can_write b ≡ true → Plain (escape b)
escape_plain b h = rw (escape-is b) (go (leb 32 b) refl (eqb b line_feed) (eqb b tab) (eqb b quote_mark) refl (eqb b backslash) refl h)
  where
    go : (k : Bool) → leb 32 b ≡ k → (t u q : Bool) → eqb b quote_mark ≡ q → (w : Bool) → eqb b backslash ≡ w
        → either k (either t u) ≡ true
        → Plain (escape_case b t u q w)
    go k _ true u q _ w _ h = plain_given (backslash ∷ 110 ∷ []) refl
    go k _ false true q _ w _ h = plain_given (backslash ∷ 116 ∷ []) refl
    go k _ false false true q w _ h = (omega arith, (omega (arith, eqb-true b quote_mark q), tt))
    go k _ false false false q true w h = (omega arith, (omega (arith, eqb-true b backslash w), tt))
    go true k false false false q false w h = (leb-true 32 b k, tt)
    go false k false false false q false w h = absurd (let z : ◌≡◌ {A = ℕ} 0 1 = cc in omega arith)

written_plain : (v : List ℕ) → writable v ≡ true → Plain (escaped v)
unfolding escaped writable
written_plain [] h = tt
written_plain (b ∷ v) h =
    plain_append (escape b) (escaped v) (escape_plain b (both_0 (can_write b) (writable v) h))
    (written_plain v (both_1 (can_write b) (writable v) h))

module _ (v : List ℕ) (h : Plain (escaped v)) where
  line_plain : Plain (msgid_line v)
  line_plain =
      plain_append msgid_mark (escaped v ++ (quote_mark ∷ [])) (plain_given msgid_mark refl)
      (plain_append (escaped v) (quote_mark ∷ []) h (plain_given (quote_mark ∷ []) refl))

  msgid_kind : kind_of (msgid_line v) ≡ Msgid
  unfolding kind_of marked_as begins quote_end quote_next
  msgid_kind =
      rw (
        plain_printable (msgid_line v) line_plain,
        ne_eqb (length (msgid_line v)) 0 (λ e. omega arith),
        escaped_end v (quote_mark ∷ []),
      )

  msgid_line_lem : line_of (msgid_line v) ≡ record { kind = Msgid; text = v }
  unfolding line_of unescaped given
  msgid_line_lem = rw (msgid_kind, escaped_text v (quote_mark ∷ []), append-nil v)

msgstr_line_lem : line_of msgstr_line ≡ record { kind = Msgstr; text = [] }
unfolding line_of kind_of marked_as begins is_printable all_below quote_end quote_next unescaped given
msgstr_line_lem = refl

empty-line : line_of [] ≡ record { kind = Blank; text = [] }
unfolding line_of kind_of marked_as is_printable all_below
empty-line = refl

entry_lines : (v rest : List ℕ) → Plain (escaped v)
    → lines_of (entry_of v ++ rest) ≡ msgid_line v ∷ msgstr_line ∷ [] ∷ lines_of rest
unfolding entry_of lines_of
entry_lines v rest h =
    let a : entry_of v ++ rest ≡ msgid_line v ++ (line_feed ∷ (msgstr_line ++ (line_feed ∷ line_feed ∷ rest)))
    = rw (append_assoc (escaped v) entry_end rest, append_assoc (escaped v) (quote_mark ∷ [])) in
    ap lines_of a
    ∙ line_cut (msgid_line v) (msgstr_line ++ (line_feed ∷ line_feed ∷ rest)) (λ j k. plain_at (msgid_line v) j k (line_plain v h))

entry_read : (v rest : List ℕ) → Plain (escaped v)
    → read_lines (entry_of v ++ rest)
    ≡ record { kind = Msgid; text = v } ∷ record { kind = Msgstr; text = [] } ∷ record { kind = Blank; text = [] } ∷ read_lines rest
unfolding read_lines
entry_read v rest h = rw (entry_lines v rest h, msgid_line_lem v h, msgstr_line_lem, empty-line)

-- ---- a file of such pairs

abbrev pub EachWritable : List (List ℕ) → Type 0
EachWritable [] = Unit {0}
EachWritable (v ∷ vs) = (is_utf8 v ≡ true) × (writable v ≡ true) × EachWritable vs

no_lines : read_lines [] ≡ []
unfolding read_lines lines_of
no_lines = refl

file_stand : (vs : List (List ℕ)) → EachWritable vs → stand_after Between (read_lines (file_of vs)) ≡ Between
unfolding file_of stand_after
file_stand [] w = rw no_lines
file_stand (v ∷ vs) w = rw (entry_read v (file_of vs) (written_plain v w.1)) (file_stand vs w.2)

file-pairs : (vs : List (List ℕ)) → EachWritable vs → paired (values_in (file_of vs)) ≡ map untranslated vs
unfolding file_of values_in values_of continued paired
file-pairs [] w = rw no_lines
file-pairs (v ∷ vs) w = rw (entry_read v (file_of vs) (written_plain v w.1), append-nil v, file-pairs vs w.2)

no_last : last_of line_feed [] ≡ line_feed
unfolding last_of
no_last = refl

entry_ends : (v : List ℕ) → last_of line_feed (entry_of v) ≡ line_feed
unfolding entry_of last_of
entry_ends v =
    let m = quote_mark ∷ line_feed ∷ msgstr_mark ++ (quote_mark ∷ line_feed ∷ line_feed ∷ []) in
    last_append line_feed (msgid_mark ++ escaped v) m

file_ends : (vs : List (List ℕ)) → last_of line_feed (file_of vs) ≡ line_feed
unfolding file_of
file_ends [] = no_last
file_ends (v ∷ vs) = last_append line_feed (entry_of v) (file_of vs) ∙ rw (entry_ends v) (file_ends vs)

-- ---- its bytes

utf8_is : (v : List ℕ) → is_utf8 v ≡ true → utf8_from between v ≡ true
unfolding is_utf8
utf8_is v h = h

none_utf8 : utf8_from between [] ≡ true
unfolding reading_of
none_utf8 = refl

entry_utf8 : (v rest : List ℕ) → is_utf8 v ≡ true → utf8_from between (entry_of v ++ rest) ≡ utf8_from between rest
unfolding entry_of
entry_utf8 v rest u =
    let tail = quote_mark ∷ line_feed ∷ msgstr_mark ++ (quote_mark ∷ line_feed ∷ line_feed ∷ []) in
    rw (append_assoc msgid_mark (escaped v ++ tail) rest, append_assoc (escaped v) tail rest)
    (ascii_behind between msgid_mark (escaped v ++ (tail ++ rest)) (refl, refl) (ascii-given msgid_mark refl)
    ∙ utf8_behind between (escaped v) (tail ++ rest) (refl, refl) (escaped_utf8 v between (omega arith) (utf8_is v u))
    ∙ ascii_behind between tail rest (refl, refl) (ascii-given tail refl))

file_utf8 : (vs : List (List ℕ)) → EachWritable vs → utf8_from between (file_of vs) ≡ true
unfolding file_of
file_utf8 [] w = none_utf8
file_utf8 (v ∷ vs) w = entry_utf8 v (file_of vs) w.0 ∙ file_utf8 vs w.2

-- ---- the whole file

ids_back : (vs : List (List ℕ)) → map id_of (map untranslated vs) ≡ vs
ids_back [] = refl
ids_back (v ∷ vs) = ap (λ (ws : List (List ℕ)). v ∷ ws) (ids_back vs)

file_in : (vs : List (List ℕ)) → EachWritable vs → in_subset (file_of vs) ≡ true
unfolding in_subset is_utf8
file_in vs w = rw (file_utf8 vs w, file_ends vs, file_stand vs w)

-- different writable values, written: each is read back, in order, not yet translated
pub read_back : (vs : List (List ℕ)) → EachWritable vs → different vs ≡ true
    → read_file (file_of vs) ≡ pairs (map untranslated vs)
unfolding read_file
read_back vs w d = rw (file_in vs w, file-pairs vs w, ids_back vs, d)
