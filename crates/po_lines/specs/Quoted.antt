-- Quoted text, one byte at a time from behind the opening quote on. 02, No. 1: "quoted text", "the escapes `\n`, `\t`, `\"`, `\\`".
-- docs/FORMAT.md: Translators' files.
use Rattle.std.specs.Prelude.{◌≡◌, Option, Some, None, Bool, true, false, List, [], ◌∷◌, ◌++◌, ℕ, ◌+◌, ◌≤◌, eqb, length}
use Rattle.bits.specs.Choice.{pick, either}
use Rattle.text.specs.Text.{line_feed, Wrote}
use Rattle.po_text.specs.Marks.{quote_mark, backslash, tab}
use Rattle.po_lines.specs.declared.Step.{Step}
use Rattle.po_lines.specs.declared.Quote.{Quote}
use Rattle.po_lines.specs.declared.Quote.TheVariants.{Open, Escape, Closed, Wrong}

-- what may stand behind a backslash: `n`, `t`, `"`, `\`
abbrev pub is_escape : ℕ → Bool
is_escape b = either (eqb b 110) (either (eqb b 116) (either (eqb b quote_mark) (eqb b backslash)))

-- the byte that an escape stands for
abbrev pub meant : ℕ → ℕ
meant b = pick (eqb b 110) line_feed (pick (eqb b 116) tab b)

-- where the text stands after one more byte: nothing may follow the closing quote
unfoldable pub quote_next : Quote → ℕ → Quote
quote_next Open b = pick (eqb b quote_mark) Closed (pick (eqb b backslash) Escape Open)
quote_next Escape b = pick (is_escape b) Open Wrong
quote_next Closed b = Wrong
quote_next Wrong b = Wrong

-- where the text stands after some bytes
unfoldable pub quote_end : Quote → List ℕ → Quote
quote_end q [] = q
quote_end q (b ∷ bs) = quote_end (quote_next q b) bs

-- the closing quote is the last byte
abbrev pub is_closed : Quote → Bool
is_closed Open = false
is_closed Escape = false
is_closed Closed = true
is_closed Wrong = false

-- the byte of the value that a byte gives, if any
unfoldable pub given : Quote → ℕ → List ℕ
given Open b = pick (either (eqb b quote_mark) (eqb b backslash)) [] (b ∷ [])
given Escape b = meant b ∷ []
given Closed b = []
given Wrong b = []

-- the value: the text without its escapes
unfoldable pub unescaped : Quote → List ℕ → List ℕ
unescaped q [] = []
unescaped q (b ∷ bs) = given q b ++ unescaped (quote_next q b) bs

-- ---- what a writer of quoted text promises

-- one byte: what it gives stands at a place of the buffer, at most one byte
pub record Stepped (old : List ℕ) (at : ℕ) (q : Quote) (b : ℕ) (r : Step) (new : List ℕ) : Type 0 where
  pub wrote : Wrote old at (given q b) r.to new
  pub few : r.to ≤ at + 1
  pub next : r.quote ≡ quote_next q b

-- its value stands at a place of the buffer, up to `to`; it has no more bytes than the text, which is closed or not
pub record PutText (old : List ℕ) (at : ℕ) (text : List ℕ) (to : ℕ) (whole : Bool) (new : List ℕ) : Type 0 where
  pub wrote : Wrote old at (unescaped Open text) to new
  pub few : to ≤ at + length text
  pub closed : is_closed (quote_end Open text) ≡ whole

-- the place behind it is answered where the text is closed at its end
abbrev pub PutTextAs : List ℕ → ℕ → List ℕ → Option ℕ → List ℕ → Type 0
PutTextAs old at text (Some to) new = PutText old at text to true new
PutTextAs old at text None new = (to : ℕ) × PutText old at text to false new
