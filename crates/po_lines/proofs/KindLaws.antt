-- The kind of a line, and the line as it is read.
use mathlib.Core.Path.{◌≡◌, refl, ap, sym, ◌∙◌}
use mathlib.Core.Bool.{Bool, true, false}
use mathlib.Core.Logic.{inr}
use mathlib.Core.List.{List, [], ◌∷◌, ◌++◌}
use Prim.Native.Nat.{ℕ, ◌+◌, ◌-◌, ◌≤◌}
use native.Mathlib.Omega.{arith}
use borrow.Author.Tests.{eqb-true}
use lib.Dec.{eqb}
use lib.ListN.{length, take, drop, length-append, length-drop}
use lib.Seq.{length-take-le}
use Rattle.bits.specs.Choice.{pick, both}
use Rattle.bits.proofs.TestLaws.{both_0, both_1}
use Rattle.po_text.specs.Marks.{msgid_mark, msgstr_mark}
use Rattle.po_lines.specs.declared.Kind.{Kind}
use Rattle.po_lines.specs.declared.Kind.TheVariants.{Blank, Msgid, Msgstr, More, Outside}
use Rattle.po_lines.specs.Kinds.{more_mark, comment_mark, mark_of, is_quoted, is_outside, begins, marked_as, is_printable, is_whole}
use Rattle.po_lines.specs.Kinds.{kind_of, text_of, line_of, read_lines, opens_value}
use Rattle.po_lines.specs.Taken.{IsLine, OutsideAt}

never : {A : Type 0} → ◌≡◌ {A = Bool} false true → A
never e = absurd (let z : ◌≡◌ {A = ℕ} 0 1 = cc in omega arith)

-- ---- a line that begins with its mark

pub begins-split : (mark s : List ℕ) → begins mark s ≡ true → mark ++ drop (length mark) s ≡ s
unfolding begins
begins-split [] s h = refl
begins-split (m ∷ mark) [] h = never h
begins-split (m ∷ mark) (b ∷ s) h =
    let e : b ≡ m = eqb-true b m (both_0 (eqb b m) (begins mark s) h) in
    rw (e, begins-split mark s (both_1 (eqb b m) (begins mark s) h))

pub marked-begins : (s : List ℕ) (k : Kind) → marked_as s ≡ k → is_quoted k ≡ true → begins (mark_of k) s ≡ true
unfolding marked_as
marked-begins s k e q =
    go k (eqb (length s) 0) (begins comment_mark s) (begins msgid_mark s) refl (begins msgstr_mark s) refl (begins more_mark s) refl e q
  where
    go : (k : Kind) (x c i : Bool) → begins msgid_mark s ≡ i → (t : Bool) → begins msgstr_mark s ≡ t → (m : Bool)
        → begins more_mark s ≡ m
        → pick x Blank (pick c Blank (pick i Msgid (pick t Msgstr (pick m More Outside)))) ≡ k → is_quoted k ≡ true
        → begins (mark_of k) s ≡ true
    go k true c i _ t _ m _ e q = never (ap is_quoted e ∙ q)
    go k false true i _ t _ m _ e q = never (ap is_quoted e ∙ q)
    go k false false true i t _ m _ e q = rw (← e) i
    go k false false false _ true t m _ e q = rw (← e) t
    go k false false false _ false _ true m e q = rw (← e) m
    go k false false false _ false _ false m e q = never (ap is_quoted e ∙ q)

-- a line that opens a value has at least the bytes of its mark
opens_mark : (k : Kind) → opens_value k ≡ true → (is_quoted k ≡ true) × (7 ≤ length (mark_of k))
opens_mark Blank h = never h
opens_mark Msgid h = (refl, omega arith)
opens_mark Msgstr h = (refl, omega arith)
opens_mark More h = never h
opens_mark Outside h = never h

opens-long : (s : List ℕ) → opens_value (marked_as s) ≡ true → 7 ≤ length s
opens-long s h =
    let q = opens_mark (marked_as s) h in
    let b = begins-split (mark_of (marked_as s)) s (marked-begins s (marked_as s) refl q.0) in
    omega (arith, q.1, ap length b, length-append (mark_of (marked_as s)) (drop (length (mark_of (marked_as s))) s))

-- ---- the kind

pub kind_sound : (s : List ℕ) → is_printable s ≡ true → is_whole (marked_as s) s ≡ true → kind_of s ≡ marked_as s
unfolding kind_of
kind_sound s p w = rw (p, w)

-- a line whose kind is quoted was marked so, and its text is closed
pub kind_quoted : (s : List ℕ) → is_quoted (kind_of s) ≡ true → (marked_as s ≡ kind_of s) × (is_whole (kind_of s) s ≡ true)
unfolding kind_of
kind_quoted s q = go (both (is_printable s) (is_whole (marked_as s) s)) refl q
  where
    go : (t : Bool) → both (is_printable s) (is_whole (marked_as s) s) ≡ t → is_quoted (pick t (marked_as s) Outside) ≡ true
        → (marked_as s ≡ pick t (marked_as s) Outside) × (is_whole (pick t (marked_as s) Outside) s ≡ true)
    go true t q = (refl, both_1 (is_printable s) (is_whole (marked_as s) s) t)
    go false t q = never q

-- ---- the line at a place

outside_is : (k : Kind) → is_outside k ≡ true → k ≡ Outside
outside_is Blank h = never h
outside_is Msgid h = never h
outside_is Msgstr h = never h
outside_is More h = never h
outside_is Outside h = refl

module _ (s : List ℕ) (at end : ℕ) (i : IsLine s at end) where
  abbrev pub line : List ℕ
  line = take (end - at) (drop at s)

  pub line-size : length line ≡ end - at
  line-size = length-take-le (end - at) (drop at s) (rw length-drop (omega (arith, i.from, i.within)))

  line_read : read_lines (drop at s) ≡ line_of line ∷ read_lines (drop (end + 1) s)
  unfolding read_lines
  line_read = rw i.first

  -- outside by its kind
  fault : kind_of line ≡ Outside → OutsideAt s at
  unfolding line_of
  fault e = inr (line_of line, read_lines (drop (end + 1) s), line_read, e)

  module _ (k : Kind) (m : k ≡ marked_as line) where
    pub marked_outside : is_outside k ≡ true → OutsideAt s at
    unfolding kind_of
    marked_outside h =
        let e : marked_as line ≡ Outside = sym m ∙ outside_is k h in
        fault (rw e (go (both (is_printable line) (is_whole Outside line))))
      where
        go : (t : Bool) → pick t Outside Outside ≡ Outside
        go true = refl
        go false = refl

    pub text_unclosed : is_whole k line ≡ false → OutsideAt s at
    unfolding kind_of
    text_unclosed h = let w : is_whole (marked_as line) line ≡ false = rw m at h in fault (rw (i.plain, w))

    module _ (w : is_whole k line ≡ true) where
      kind_is : kind_of line ≡ k
      kind_is = kind_sound line i.plain (rw m at w) ∙ sym m

      -- a line of the subset, with its value
      pub line_sound : read_lines (drop at s) ≡ record { kind = k; text = text_of k line } ∷ read_lines (drop (end + 1) s)
      unfolding line_of
      line_sound = line_read ∙ rw kind_is

    pub sound_long : opens_value k ≡ true → at + 8 ≤ end + 1
    sound_long h = omega (arith, opens-long line (rw m at h), line-size, i.from)

    pub not_outside : is_outside k ≡ false → k ≡ Outside → ⊥
    not_outside h e = never (sym (ap is_outside (sym e) ∙ h))
