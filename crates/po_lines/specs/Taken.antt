-- What the reader of one line promises.
use Rattle.std.specs.Prelude.{◌≡◌, true, false, ◌⊎◌, Option, Some, None, List, [], ◌∷◌, ℕ, ◌+◌, ◌-◌, ◌≤◌, ◌<◌, length, get_or, take, drop}
use Rattle.text.specs.Text.{Wrote}
use Rattle.po_lines.specs.declared.Kind.TheVariants.{Outside}
use Rattle.po_lines.specs.declared.Took.{Took}
use Rattle.po_lines.specs.Lines.{lines_of, is_ended}
use Rattle.po_lines.specs.Kinds.{is_quoted, is_printable, Line, read_lines, opens_value}

-- `end` is the first place from `at` on with a byte below 32, or the length of the file
pub record FirstLow (s : List ℕ) (at end : ℕ) : Type 0 where
  pub from : at ≤ end
  pub within : end ≤ length s
  pub none : (j : ℕ) → at ≤ j → j < end → 32 ≤ get_or s j 0
  pub low : end < length s → get_or s end 0 < 32

-- the bytes from `at` up to `end` are a line, and its line feed follows
pub record IsLine (s : List ℕ) (at end : ℕ) : Type 0 where
  pub from : at ≤ end
  pub within : end < length s
  pub plain : is_printable (take (end - at) (drop at s)) ≡ true
  pub first : lines_of (drop at s) ≡ take (end - at) (drop at s) ∷ lines_of (drop (end + 1) s)

-- the line at `at` is outside the subset: it has a raw byte below 32 or another fault, or no line feed behind it
abbrev pub OutsideAt : List ℕ → ℕ → Type 0
OutsideAt s at = (is_ended s ≡ false) ⊎ ((l : Line) × (ls : List Line) × (read_lines (drop at s) ≡ l ∷ ls) × (l.kind ≡ Outside))

abbrev pub EndsAt : List ℕ → ℕ → Option ℕ → Type 0
EndsAt s at (Some end) = IsLine s at end
EndsAt s at None = OutsideAt s at

-- the line at `at` was read: its text stands in the buffer from `to` on, where the text of a line takes no more bytes than the line
pub record TookLine (s : List ℕ) (at : ℕ) (old : List ℕ) (to : ℕ) (r : Took) (new : List ℕ) : Type 0 where
  pub text : List ℕ
  pub wrote : Wrote old to text r.to new
  pub first : read_lines (drop at s) ≡ record { kind = r.kind; text = text } ∷ read_lines (drop r.next s)
  pub onward : at < r.next
  pub within : r.next ≤ length s
  pub few : r.to + at ≤ to + r.next
  pub long : opens_value r.kind ≡ true → at + 8 ≤ r.next
  pub blank : is_quoted r.kind ≡ false → text ≡ []
  pub some : r.kind ≡ Outside → ⊥

abbrev pub TakenAs : List ℕ → ℕ → List ℕ → ℕ → Option Took → List ℕ → Type 0
TakenAs s at old to (Some r) new = TookLine s at old to r new
TakenAs s at old to None new = OutsideAt s at
