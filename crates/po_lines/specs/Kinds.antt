-- What a line is. 02, No. 1: "lines that are empty or begin with `#`; `msgid` then `msgstr`, each followed by one space and quoted text;
-- after either, lines of quoted text alone that continue it"; "a raw byte below 32 within a line is outside the subset".
-- docs/FORMAT.md: Translators' files.
use Rattle.std.specs.Prelude.{◌≡◌, Option, Some, None, Bool, true, false, List, [], ◌∷◌, map, ℕ, ◌+◌, ◌≤◌, leb, eqb, length, get_or, drop}
use Rattle.bits.specs.Choice.{pick, both, implies, all_below}
use Rattle.text.specs.Text.{Wrote}
use Rattle.po_text.specs.Marks.{quote_mark, msgid_mark, msgstr_mark}
use Rattle.po_lines.specs.declared.Kind.{Kind}
use Rattle.po_lines.specs.declared.Kind.TheVariants.{Blank, Msgid, Msgstr, More, Outside}
use Rattle.po_lines.specs.declared.Quote.TheVariants.{Open}
use Rattle.po_lines.specs.Lines.{lines_of}
use Rattle.po_lines.specs.Quoted.{quote_end, is_closed, unescaped}

-- `"`, of a line of quoted text alone
abbrev pub more_mark : List ℕ
more_mark = quote_mark ∷ []

-- `#`
abbrev pub comment_mark : List ℕ
comment_mark = 35 ∷ []

-- what stands before the quoted text of a line of a kind, its opening quote with it
abbrev pub mark_of : Kind → List ℕ
mark_of Blank = []
mark_of Msgid = msgid_mark
mark_of Msgstr = msgstr_mark
mark_of More = more_mark
mark_of Outside = []

-- kinds of line that carry quoted text
abbrev pub is_quoted : Kind → Bool
is_quoted Blank = false
is_quoted Msgid = true
is_quoted Msgstr = true
is_quoted More = true
is_quoted Outside = false

abbrev pub is_outside : Kind → Bool
is_outside Blank = false
is_outside Msgid = false
is_outside Msgstr = false
is_outside More = false
is_outside Outside = true

-- a line begins with these bytes
unfoldable pub begins : List ℕ → List ℕ → Bool
begins [] s = true
begins (m ∷ ms) [] = false
begins (m ∷ ms) (b ∷ s) = both (eqb b m) (begins ms s)

-- the kind of a line by how it begins
unfoldable pub marked_as : List ℕ → Kind
marked_as s =
    pick (eqb (length s) 0) Blank
    (pick (begins comment_mark s) Blank
    (pick (begins msgid_mark s) Msgid
    (pick (begins msgstr_mark s) Msgstr
    (pick (begins more_mark s) More Outside))))

-- "a raw byte below 32": there is none
unfoldable pub is_printable : List ℕ → Bool
is_printable s = all_below (length s) (λ i. leb 32 (get_or s i 0))

-- the quoted text of a line of a kind, from behind its opening quote on
abbrev pub behind_mark : Kind → List ℕ → List ℕ
behind_mark k s = drop (length (mark_of k)) s

-- the quoted text of a line, if it has any, is closed at its end
abbrev pub is_whole : Kind → List ℕ → Bool
is_whole k s = implies (is_quoted k) (is_closed (quote_end Open (behind_mark k s)))

-- the kind of a line
unfoldable pub kind_of : List ℕ → Kind
kind_of s = pick (both (is_printable s) (is_whole (marked_as s) s)) (marked_as s) Outside

-- the value of the quoted text of a line
abbrev pub text_of : Kind → List ℕ → List ℕ
text_of k s = pick (is_quoted k) (unescaped Open (behind_mark k s)) []

-- a line that is read
pub record Line : Type 0 where
  pub kind : Kind
  pub text : List ℕ

unfoldable pub line_of : List ℕ → Line
line_of s = record { kind = kind_of s; text = text_of (kind_of s) s }

-- the lines of a file, read
unfoldable pub read_lines : List ℕ → List Line
read_lines s = map line_of (lines_of s)

-- ---- kinds of line in a pair

-- a keyword opens a value
abbrev pub opens_value : Kind → Bool
opens_value Blank = false
opens_value Msgid = true
opens_value Msgstr = true
opens_value More = false
opens_value Outside = false

-- "lines of quoted text alone that continue it"
abbrev pub continues_value : Kind → Bool
continues_value Blank = false
continues_value Msgid = false
continues_value Msgstr = false
continues_value More = true
continues_value Outside = false

-- ---- what a writer of the value of a line promises

pub record PutLine (old : List ℕ) (at : ℕ) (line : List ℕ) (k : Kind) (to : ℕ) (whole : Bool) (new : List ℕ) : Type 0 where
  pub wrote : Wrote old at (text_of k line) to new
  pub few : to ≤ at + length line
  pub closed : is_whole k line ≡ whole

-- the place behind it is answered where its text, if it has any, is closed at its end
abbrev pub PutLineAs : List ℕ → ℕ → List ℕ → Kind → Option ℕ → List ℕ → Type 0
PutLineAs old at line k (Some to) new = PutLine old at line k to true new
PutLineAs old at line k None new = (to : ℕ) × PutLine old at line k to false new
