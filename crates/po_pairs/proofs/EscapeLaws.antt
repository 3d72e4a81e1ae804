-- A value with its escapes: case by case, UTF-8 where the value is, and read back as it was.
use mathlib.Core.Path.{◌≡◌, refl, ◌∙◌}
use mathlib.Core.Bool.{Bool, true, false}
use mathlib.Core.List.{List, [], ◌∷◌, ◌++◌, append_assoc}
use Prim.Native.Nat.{ℕ, ◌≤◌, ◌<◌}
use native.Mathlib.Omega.{arith}
use borrow.Author.Tests.{eqb-true}
use lib.Dec.{eqb}
use Rattle.bits.specs.Choice.{pick, either}
use Rattle.text.specs.Text.{line_feed}
use Rattle.utf.specs.declared.Reading.{Reading}
use Rattle.utf.specs.Utf8.{next_byte, reading_of}
use Rattle.utf.proofs.PieceLaws.{utf8_from, Rests, rested_same, ascii_rests, rested_before, next_low}
use Rattle.po_text.specs.Marks.{quote_mark, backslash, tab}
use Rattle.po_text.specs.Written.{escape, escaped}
use Rattle.po_lines.specs.declared.Quote.TheVariants.{Open}
use Rattle.po_lines.specs.Quoted.{quote_next, given, quote_end, unescaped}

-- ---- UTF-8

-- an escape stands for its byte
escape_one : (r : Reading) (b c : ℕ) (bs es : List ℕ) → 0x80 ≤ r.lo → b < 0x80 → c < 0x80 → utf8_from r (b ∷ bs) ≡ true
    → (utf8_from (next_byte r b) bs ≡ true → utf8_from (next_byte r b) es ≡ true) → utf8_from r (backslash ∷ c ∷ es) ≡ true
unfolding reading_of
escape_one r b c bs es l k m h e =
    let n : Rests r = rested_before r b bs l k h in
    let s : Rests (next_byte r backslash) = ascii_rests r backslash (omega arith) n in
    rested_same (next_byte (next_byte r backslash) c) (next_byte r b) es (ascii_rests (next_byte r backslash) c m s) (ascii_rests r b k n)
    ∙ e h

-- an escape, case by case
abbrev pub escape_case : ℕ → Bool → Bool → Bool → Bool → List ℕ
escape_case b t u q w = pick t (backslash ∷ 110 ∷ [])
    (pick u (backslash ∷ 116 ∷ []) (pick (either q w) (backslash ∷ b ∷ []) (b ∷ [])))

pub escape-is : (b : ℕ) → escape b ≡ escape_case b (eqb b line_feed) (eqb b tab) (eqb b quote_mark) (eqb b backslash)
unfolding escape
escape-is b = go (eqb b line_feed) (eqb b tab) (either (eqb b quote_mark) (eqb b backslash))
  where
    go : (t u x : Bool) → pick (either t (either u x)) (backslash ∷ pick t 110 (pick u 116 b) ∷ []) (b ∷ [])
        ≡ pick t (backslash ∷ 110 ∷ []) (pick u (backslash ∷ 116 ∷ []) (pick x (backslash ∷ b ∷ []) (b ∷ [])))
    go true u x = refl
    go false true x = refl
    go false false true = refl
    go false false false = refl

pub escaped_utf8 : (v : List ℕ) (r : Reading) → 0x80 ≤ r.lo → utf8_from r v ≡ true → utf8_from r (escaped v) ≡ true
unfolding escaped reading_of
escaped_utf8 [] r l h = h
escaped_utf8 (b ∷ bs) r l h =
    rw (escape-is b)
    (go (escaped_utf8 bs (next_byte r b) (next_low r b)) (eqb b line_feed) refl (eqb b tab) refl (eqb b quote_mark) refl
    (eqb b backslash) refl)
  where
    go : (utf8_from (next_byte r b) bs ≡ true → utf8_from (next_byte r b) (escaped bs) ≡ true)
        → (t : Bool) → eqb b line_feed ≡ t → (u : Bool) → eqb b tab ≡ u → (q : Bool) → eqb b quote_mark ≡ q
        → (w : Bool) → eqb b backslash ≡ w
        → utf8_from r (escape_case b t u q w ++ escaped bs) ≡ true
    go on true t u _ q _ w _ = escape_one r b 110 bs (escaped bs) l (omega (arith, eqb-true b line_feed t)) (omega arith) h on
    go on false t true u q _ w _ = escape_one r b 116 bs (escaped bs) l (omega (arith, eqb-true b tab u)) (omega arith) h on
    go on false t false u true q w _ =
        let k : b < 0x80 = omega (arith, eqb-true b quote_mark q) in escape_one r b b bs (escaped bs) l k k h on
    go on false t false u false q true w =
        let k : b < 0x80 = omega (arith, eqb-true b backslash w) in escape_one r b b bs (escaped bs) l k k h on
    go on false t false u false q false w = on h

-- ---- escapes are read back

escape_end : (b : ℕ) (rest : List ℕ) → quote_end Open (escape b ++ rest) ≡ quote_end Open rest
unfolding quote_end quote_next
escape_end b rest = rw (escape-is b) (go (eqb b line_feed) (eqb b tab) (eqb b quote_mark) refl (eqb b backslash) refl)
  where
    go : (t u q : Bool) → eqb b quote_mark ≡ q → (w : Bool) → eqb b backslash ≡ w
        → quote_end Open (escape_case b t u q w ++ rest) ≡ quote_end Open rest
    go true u q _ w _ = refl
    go false true q _ w _ = refl
    go false false true q w _ = rw (eqb-true b quote_mark q)
    go false false false q true w = rw (eqb-true b backslash w)
    go false false false q false w = rw (q, w)

escape_text : (b : ℕ) (rest : List ℕ) → unescaped Open (escape b ++ rest) ≡ b ∷ unescaped Open rest
unfolding unescaped quote_next given
escape_text b rest = rw (escape-is b) (go (eqb b line_feed) refl (eqb b tab) refl (eqb b quote_mark) refl (eqb b backslash) refl)
  where
    go : (t : Bool) → eqb b line_feed ≡ t → (u : Bool) → eqb b tab ≡ u → (q : Bool) → eqb b quote_mark ≡ q → (w : Bool)
        → eqb b backslash ≡ w
        → unescaped Open (escape_case b t u q w ++ rest) ≡ b ∷ unescaped Open rest
    go true t u _ q _ w _ = rw (eqb-true b line_feed t)
    go false _ true u q _ w _ = rw (eqb-true b tab u)
    go false _ false _ true q w _ = rw (eqb-true b quote_mark q)
    go false _ false _ false q true w = rw (eqb-true b backslash w)
    go false _ false _ false q false w = rw (q, w)

pub escaped_end : (v rest : List ℕ) → quote_end Open (escaped v ++ rest) ≡ quote_end Open rest
unfolding escaped
escaped_end [] rest = refl
escaped_end (b ∷ v) rest = rw (append_assoc (escape b) (escaped v) rest, escape_end b (escaped v ++ rest)) (escaped_end v rest)

pub escaped_text : (v rest : List ℕ) → unescaped Open (escaped v ++ rest) ≡ v ++ unescaped Open rest
unfolding escaped
escaped_text [] rest = refl
escaped_text (b ∷ v) rest = rw (append_assoc (escape b) (escaped v) rest, escape_text b (escaped v ++ rest), escaped_text v rest)
