-- A translators' file that is written. 02, No. 1: "one pair per plain string .., msgstr empty, each on one line, an empty line after each
-- pair, nothing else".
-- docs/FORMAT.md: Translators' files.
use Rattle.std.specs.Prelude.{Bool, true, List, [], ◌∷◌, ◌++◌, ℕ, leb, eqb}
use Rattle.bits.specs.Choice.{pick, both, either}
use Rattle.text.specs.Text.{line_feed}
use Rattle.po_text.specs.Marks.{quote_mark, backslash, tab, msgid_mark, msgstr_mark}

-- bytes that are written with a backslash: newline, tab, `"`, `\`. "the escapes `\n`, `\t`, `\"`, `\\`"
abbrev pub is_special : ℕ → Bool
is_special b = either (eqb b line_feed) (either (eqb b tab) (either (eqb b quote_mark) (eqb b backslash)))

-- what stands behind the backslash: `n`, `t`, or the byte itself
abbrev pub letter_of : ℕ → ℕ
letter_of b = pick (eqb b line_feed) 110 (pick (eqb b tab) 116 b)

-- a byte of a value as it is written
unfoldable pub escape : ℕ → List ℕ
escape b = pick (is_special b) (backslash ∷ letter_of b ∷ []) (b ∷ [])

-- the bytes of a value as they are written
unfoldable pub escaped : List ℕ → List ℕ
escaped [] = []
escaped (b ∷ bs) = escape b ++ escaped bs

-- "Units below 32 other than newline and tab can't be written"
abbrev pub can_write : ℕ → Bool
can_write u = either (leb 32 u) (either (eqb u line_feed) (eqb u tab))

-- units of which each can be written; so of the bytes of a value
unfoldable pub writable : List ℕ → Bool
writable [] = true
writable (u ∷ us) = both (can_write u) (writable us)

-- behind a value: its closing quote, an empty msgstr, an empty line
abbrev pub entry_end : List ℕ
entry_end = quote_mark ∷ line_feed ∷ msgstr_mark ++ (quote_mark ∷ line_feed ∷ line_feed ∷ [])

-- the pair of a value: a msgid with it, "msgstr empty, each on one line, an empty line after each pair"
unfoldable pub entry_of : List ℕ → List ℕ
entry_of v = msgid_mark ++ (escaped v ++ entry_end)

-- the file of some values: their pairs, "nothing else"
unfoldable pub file_of : List (List ℕ) → List ℕ
file_of [] = []
file_of (v ∷ vs) = entry_of v ++ file_of vs
