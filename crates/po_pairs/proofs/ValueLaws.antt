-- Every value of a file in the subset is UTF-8: no patch by a msgstr is ever refused with 8.
use mathlib.Core.Path.{◌≡◌, refl, ap, sym, ◌∙◌}
use mathlib.Core.Bool.{Bool, true, false}
use mathlib.Core.List.{List, [], ◌∷◌, ◌++◌, map}
use Prim.Native.Nat.{ℕ, zero, suc, ◌≤◌, ◌<◌}
use native.Mathlib.Nat.{not-suc-le-zero}
use native.Mathlib.Omega.{arith}
use borrow.Author.Tests.{eqb-true}
use lib.Dec.{eqb}
use lib.ListN.{length, drop}
use Rattle.bits.specs.Choice.{pick, both, either}
use Rattle.bits.proofs.TestLaws.{both_0, imp_use}
use Rattle.text.specs.Text.{line_feed}
use Rattle.utf.specs.declared.Reading.{Reading}
use Rattle.utf.specs.Utf8.{between, next_byte, reading_of, is_utf8}
use Rattle.utf.proofs.PieceLaws.{utf8_from, Rests, rested_same, ascii_rests, rested_before, next_low, utf8_behind, Ascii}
use Rattle.utf.proofs.PieceLaws.{ascii-given, ascii_behind}
use Rattle.po_text.specs.Marks.{quote_mark, backslash, tab, msgid_mark, msgstr_mark}
use Rattle.po_lines.specs.declared.Kind.{Kind}
use Rattle.po_lines.specs.declared.Kind.TheVariants.{Blank, Msgid, Msgstr, More, Outside}
use Rattle.po_lines.specs.declared.Quote.{Quote}
use Rattle.po_lines.specs.declared.Quote.TheVariants.{Open, Escape, Closed, Wrong}
use Rattle.po_lines.specs.Lines.{in_front, lines_of, is_ended}
use Rattle.po_lines.specs.Quoted.{is_escape, meant, quote_next, given, quote_end, unescaped, is_closed}
use Rattle.po_lines.specs.Kinds.{more_mark, mark_of, is_quoted, kind_of, text_of, Line, line_of, read_lines, opens_value, continues_value}
use Rattle.po_lines.proofs.KindLaws.{begins-split, marked-begins, kind_quoted}
use Rattle.po_pairs.specs.declared.Stand.TheVariants.{Between}
use Rattle.po_pairs.specs.Order.{stand_after, ends_well}
use Rattle.po_pairs.specs.Pairs.{continued, values_of, values_in, Pair, paired, msgid_of, msgstr_of, in_subset, pairs, read_file}
use Rattle.po_pairs.proofs.OrderLaws.{never}
use Rattle.po_pairs.proofs.PairLaws.{read_is}

-- ---- quoted text

wrong_end : {A : Type 0} (bs : List ℕ) → is_closed (quote_end Wrong bs) ≡ true → A
unfolding quote_end quote_next
wrong_end [] h = never h
wrong_end (b ∷ bs) h = wrong_end bs h

-- the byte of an escape and the byte that it stands for are ASCII
escape_ascii : (b : ℕ) → is_escape b ≡ true → (b < 0x80) × (meant b < 0x80)
escape_ascii b h = go (eqb b 110) refl (eqb b 116) refl (eqb b quote_mark) refl (eqb b backslash) refl h
  where
    go : (n : Bool) → eqb b 110 ≡ n → (t : Bool) → eqb b 116 ≡ t → (q : Bool) → eqb b quote_mark ≡ q → (w : Bool)
        → eqb b backslash ≡ w
        → either n (either t (either q w)) ≡ true → (b < 0x80) × (pick n line_feed (pick t tab b) < 0x80)
    go true n t _ q _ w _ h = (omega (arith, eqb-true b 110 n), omega arith)
    go false _ true t q _ w _ h = (omega (arith, eqb-true b 116 t), omega arith)
    go false _ false _ true q w _ h = (omega (arith, eqb-true b quote_mark q), omega (arith, eqb-true b quote_mark q))
    go false _ false _ false _ true w h = (omega (arith, eqb-true b backslash w), omega (arith, eqb-true b backslash w))
    go false _ false _ false _ false w h = never h

-- behind a backslash no code point is begun
abbrev Before : Quote → Reading → Type 0
Before Open r = Unit {0}
Before Escape r = Rests r
Before Closed r = Unit {0}
Before Wrong r = Unit {0}

rests_true : (r : Reading) → Rests r → utf8_from r [] ≡ true
unfolding reading_of
rests_true r h = rw (h.0, h.1)

unescaped_utf8 : (bs : List ℕ) (q : Quote) (r : Reading) → Before q r → 0x80 ≤ r.lo → utf8_from r bs ≡ true
    → is_closed (quote_end q bs) ≡ true → utf8_from r (unescaped q bs) ≡ true
unfolding quote_end quote_next unescaped given reading_of
unescaped_utf8 [] q r p l u c = u
unescaped_utf8 (b ∷ bs) Wrong r p l u c = wrong_end bs c
unescaped_utf8 (b ∷ bs) Closed r p l u c = wrong_end bs c
unescaped_utf8 (b ∷ bs) Escape r p l u c = go (is_escape b) refl (λ e. unescaped_utf8 bs Open (next_byte r b) tt (next_low r b) u e) c
  where
    go : (t : Bool) → is_escape b ≡ t → (is_closed (quote_end Open bs) ≡ true → utf8_from (next_byte r b) (unescaped Open bs) ≡ true)
        → is_closed (quote_end (pick t Open Wrong) bs) ≡ true
        → utf8_from (next_byte r (meant b)) (unescaped (pick t Open Wrong) bs) ≡ true
    go false t ih c = wrong_end bs c
    go true t ih c =
        let a = escape_ascii b t in
        rested_same (next_byte r (meant b)) (next_byte r b) (unescaped Open bs) (ascii_rests r (meant b) a.1 p)
        (ascii_rests r b a.0 p) ∙ ih c
unescaped_utf8 (b ∷ bs) Open r p l u c =
    go (eqb b quote_mark) refl (eqb b backslash) refl (λ (q : Quote) w e. unescaped_utf8 bs q (next_byte r b) w (next_low r b) u e) c
  where
    go : (t : Bool) → eqb b quote_mark ≡ t → (w : Bool) → eqb b backslash ≡ w
        → ((q : Quote) → Before q (next_byte r b) → is_closed (quote_end q bs) ≡ true
        → utf8_from (next_byte r b) (unescaped q bs) ≡ true)
        → is_closed (quote_end (pick t Closed (pick w Escape Open)) bs) ≡ true
        → utf8_from r (pick (either t w) [] (b ∷ []) ++ unescaped (pick t Closed (pick w Escape Open)) bs) ≡ true
    go true t w _ ih c =
        let k : b < 0x80 = omega (arith, eqb-true b quote_mark t) in
        let n : Rests r = rested_before r b bs l k u in
        rested_same r (next_byte r b) (unescaped Closed bs) n (ascii_rests r b k n) ∙ ih Closed tt c
    go false t true w ih c =
        let k : b < 0x80 = omega (arith, eqb-true b backslash w) in
        let n : Rests r = rested_before r b bs l k u in
        let m : Rests (next_byte r b) = ascii_rests r b k n in
        rested_same r (next_byte r b) (unescaped Escape bs) n m ∙ ih Escape m c
    go false t false w ih c = ih Open tt c

-- ---- lines

abbrev Utf8Lines : Reading → List (List ℕ) → Type 0
Utf8Lines r [] = Unit {0}
Utf8Lines r (l ∷ ls) = (utf8_from r l ≡ true) × Utf8Lines between ls

front_utf8 : (r : Reading) (b : ℕ) (bs : List ℕ) (ls : List (List ℕ)) → ls ≡ lines_of bs → utf8_from r (b ∷ bs) ≡ true
    → Utf8Lines (next_byte r b) ls → Utf8Lines r (in_front b ls)
unfolding reading_of lines_of
front_utf8 r b [] [] e u h = (u, tt)
front_utf8 r b (c ∷ bs) [] e u h = absurd (some (eqb c line_feed) (lines_of bs) e)
  where
    some : (t : Bool) (ms : List (List ℕ)) → [] ≡ pick t ([] ∷ ms) (in_front c ms) → ⊥
    some true ms e = let z : ◌≡◌ {A = ℕ} 0 1 = cc in omega arith
    some false [] e = let z : ◌≡◌ {A = ℕ} 0 1 = cc in omega arith
    some false (m ∷ ms) e = let z : ◌≡◌ {A = ℕ} 0 1 = cc in omega arith
front_utf8 r b bs (l ∷ ls) e u h = h

feed_utf8 : (r q : Reading) (ls : List (List ℕ)) → Rests r → Rests q → Utf8Lines r ls → Utf8Lines q ls
feed_utf8 r q [] h g u = tt
feed_utf8 r q (l ∷ ls) h g u = (rested_same q r l g h ∙ u.0, u.1)

lines_utf8 : (s : List ℕ) (r : Reading) → 0x80 ≤ r.lo → utf8_from r s ≡ true → Utf8Lines r (lines_of s)
unfolding lines_of reading_of
lines_utf8 [] r l u = tt
lines_utf8 (b ∷ bs) r l u = go (eqb b line_feed) refl (lines_utf8 bs (next_byte r b) (next_low r b) u)
  where
    go : (t : Bool) → eqb b line_feed ≡ t → Utf8Lines (next_byte r b) (lines_of bs)
        → Utf8Lines r (pick t ([] ∷ lines_of bs) (in_front b (lines_of bs)))
    go true t h =
        let k : b < 0x80 = omega (arith, eqb-true b line_feed t) in
        let n : Rests r = rested_before r b bs l k u in
        (rests_true r n, feed_utf8 (next_byte r b) between (lines_of bs) (ascii_rests r b k n) (refl, refl) h)
    go false t h = front_utf8 r b bs (lines_of bs) refl u h

-- ---- the text of a line

mark_ascii : (k : Kind) → Ascii (mark_of k)
mark_ascii Blank = tt
mark_ascii Msgid = ascii-given msgid_mark refl
mark_ascii Msgstr = ascii-given msgstr_mark refl
mark_ascii More = ascii-given more_mark refl
mark_ascii Outside = tt

text_utf8 : (s : List ℕ) → utf8_from between s ≡ true → utf8_from between (text_of (kind_of s) s) ≡ true
text_utf8 s u = go (is_quoted (kind_of s)) refl
  where
    go : (t : Bool) → is_quoted (kind_of s) ≡ t
        → utf8_from between (pick t (unescaped Open (drop (length (mark_of (kind_of s))) s)) []) ≡ true
    go false t = rests_true between (refl, refl)
    go true t =
        let k = kind_quoted s t in
        let m = mark_of (kind_of s) in
        let closed = imp_use (is_quoted (kind_of s)) (is_closed (quote_end Open (drop (length m) s))) k.1 t in
        let b = begins-split m s (marked-begins s (kind_of s) k.0 t) in
        let v : utf8_from between (drop (length m) s) ≡ true
        = sym (ascii_behind between m (drop (length m) s) (refl, refl) (mark_ascii (kind_of s))) ∙ ap (utf8_from between) b ∙ u in
        unescaped_utf8 (drop (length m) s) Open between tt (omega arith) v closed

-- ---- the values

abbrev Utf8Texts : List Line → Type 0
Utf8Texts [] = Unit {0}
Utf8Texts (l ∷ ls) = (utf8_from between l.text ≡ true) × Utf8Texts ls

texts_utf8 : (rs : List (List ℕ)) → Utf8Lines between rs → Utf8Texts (map line_of rs)
unfolding line_of
texts_utf8 [] h = tt
texts_utf8 (r ∷ rs) h = (text_utf8 r h.0, texts_utf8 rs h.1)

both_utf8 : (a b : List ℕ) → utf8_from between a ≡ true → utf8_from between b ≡ true → utf8_from between (a ++ b) ≡ true
both_utf8 a b h g = utf8_behind between a b (refl, refl) h ∙ g

continued_utf8 : (ls : List Line) → Utf8Texts ls → utf8_from between (continued ls) ≡ true
unfolding continued
continued_utf8 [] h = rests_true between (refl, refl)
continued_utf8 (l ∷ ls) h = go (continues_value l.kind) (continued_utf8 ls h.1)
  where
    go : (t : Bool) → utf8_from between (continued ls) ≡ true → utf8_from between (pick t (l.text ++ continued ls) []) ≡ true
    go true e = both_utf8 l.text (continued ls) h.0 e
    go false e = rests_true between (refl, refl)

abbrev AllUtf8 : List (List ℕ) → Type 0
AllUtf8 [] = Unit {0}
AllUtf8 (v ∷ vs) = (is_utf8 v ≡ true) × AllUtf8 vs

is_utf8_lem : (v : List ℕ) → utf8_from between v ≡ true → is_utf8 v ≡ true
unfolding is_utf8
is_utf8_lem v h = h

of_utf8 : (v : List ℕ) → is_utf8 v ≡ true → utf8_from between v ≡ true
unfolding is_utf8
of_utf8 v h = h

values_utf8 : (ls : List Line) → Utf8Texts ls → AllUtf8 (values_of ls)
unfolding values_of
values_utf8 [] h = tt
values_utf8 (l ∷ ls) h = go (opens_value l.kind) (values_utf8 ls h.1)
  where
    go : (t : Bool) → AllUtf8 (values_of ls) → AllUtf8 (pick t ((l.text ++ continued ls) ∷ values_of ls) (values_of ls))
    go true e = (is_utf8_lem (l.text ++ continued ls) (both_utf8 l.text (continued ls) h.0 (continued_utf8 ls h.1)), e)
    go false e = e

values_in_lem : (s : List ℕ) → is_utf8 s ≡ true → AllUtf8 (values_in s)
unfolding values_in read_lines
values_in_lem s u = values_utf8 (map line_of (lines_of s)) (texts_utf8 (lines_of s) (lines_utf8 s between (omega arith) (of_utf8 s u)))

-- ---- the pairs

abbrev Utf8At : List Pair → ℕ → Type 0
Utf8At ps q = (is_utf8 (msgid_of ps q) ≡ true) × (is_utf8 (msgstr_of ps q) ≡ true)

pairs_utf8 : (vs : List (List ℕ)) → AllUtf8 vs → (q : ℕ) → q < length (paired vs) → Utf8At (paired vs) q
unfolding paired
pairs_utf8 [] h q k = absurd (not-suc-le-zero k)
pairs_utf8 (a ∷ []) h q k = absurd (not-suc-le-zero k)
pairs_utf8 (a ∷ b ∷ vs) h zero k = (h.0, h.1.0)
pairs_utf8 (a ∷ b ∷ vs) h (suc q) k = pairs_utf8 vs h.1.1 q (omega arith)

subset_utf8 : (s : List ℕ) → in_subset s ≡ true → is_utf8 s ≡ true
unfolding in_subset
subset_utf8 s h = both_0 (is_utf8 s) (both (is_ended s) (ends_well (stand_after Between (read_lines s)))) h

-- every msgid and msgstr that is read is UTF-8
pub all_utf8_lem : (s : List ℕ) (ps : List Pair) → read_file s ≡ pairs ps → (q : ℕ) → q < length ps → Utf8At ps q
all_utf8_lem s ps e q h =
    let r = read_is s ps e in
    rw r.2 (pairs_utf8 (values_in s) (values_in_lem s (subset_utf8 s r.0)) q (rw r.2 at h))
