-- The number of an answer, under a layout byte and a mode byte.
use Rattle.std.specs.Prelude.{Err, Ok, Result}
use mathlib.Core.Path.{◌≡◌, refl, sym, ◌∙◌, ap, subst}
use mathlib.Core.Bool.{Bool, true, false}
use mathlib.Core.List.{List}
use Prim.Native.Nat.{ℕ, ◌+◌, ◌≤◌, ◌<◌}
use lib.Dec.{eqb}
use borrow.Author.Tests.{lt-ltb, le-ltb, eqb-true, eq-eqb, ne_eqb}
use Rattle.format.specs.declared.Layout.{Layout}
use Rattle.format.specs.declared.Mode.{Mode}
use Rattle.format.specs.declared.Mode.TheVariants.{Plain, Even}
use Rattle.footer.specs.Finalize.{finalize_of}
use Rattle.image.specs.Admission.{refusal}
use Rattle.input_records.specs.Heads.{layout_of}
use Rattle.admission.specs.Admission.{admission}
use Rattle.admission.proofs.AnswerLaws.{refused_is, laid-is}
use Rattle.bits.specs.Outcome.{Outcome, roomed, Answers}
use Rattle.translate.specs.Space.{LeavesSpace}
use Rattle.string_reasons.specs.declared.Reason.{Reason}
use Rattle.string_reasons.specs.declared.Reason.TheVariants as reason-is
use Rattle.hbc.specs.Numbers.{admit_number, numbered, Codes, stated, mode_of, chosen, used_by, work_by, work_in}
use Rattle.hbc.specs.Numbers.{count_stated}
use Rattle.hbc.specs.Reads.{reason_words}
use Rattle.sections.specs.declared.Places.{Places}

-- the byte states this layout
pub record States (byte : ℕ) (l : Layout) : Type 0 where
  pub known : byte ≤ 4
  pub is : l ≡ layout_of byte

-- a byte over 4
pub no_layout : (byte : ℕ) (s : List ℕ) → 4 < byte → 15 ≡ admit_number byte s
unfolding admit_number
no_layout byte s h = rw (lt-ltb 4 byte h) refl

-- any other: an image that is laid out has no refusal
module _ (byte : ℕ) (s : List ℕ) (l : Layout) (z : States byte l) (a : Result Places ℕ) (e : a ≡ admission l s) where
  pub layout_laid : (p : Places) → a ≡ Ok p → 0 ≡ admit_number byte s
  unfolding admit_number
  layout_laid p f =
      rw (le-ltb 4 byte z.known) (sym (laid-is l s a e p f).0 ∙ ap (λ (x : Layout). refusal x s) z.is)

  pub layout_refused : (k r : ℕ) → a ≡ Err k → r ≡ k → r ≡ admit_number byte s
  unfolding admit_number
  layout_refused k r f g =
      rw (le-ltb 4 byte z.known) (g ∙ sym (refused_is l s a e k f).0 ∙ ap (λ (x : Layout). refusal x s) z.is)

-- ---- functions that write

pub refused_number : (a : Result ℕ ℕ) (n r : ℕ) → a ≡ Err n → r ≡ n → 4294967296 + r ≡ numbered a
refused_number a n r e f = ap (λ (x : ℕ). 4294967296 + x) f ∙ sym (ap numbered e)

codes : (o : Outcome) (a : Result ℕ ℕ) (r : ℕ) (old new : List ℕ) → Answers o a old new → r ≡ numbered a → Codes o r old new
codes o a r old new (e, w) f = (f ∙ ap numbered e, w)

pub finalize_codes : (s : List ℕ) (a : Result ℕ ℕ) (r : ℕ) (old new : List ℕ) → Answers (finalize_of s) a old new
    → r ≡ numbered a
    → Codes (finalize_of s) r old new
finalize_codes s = codes (finalize_of s)

pub roomed_codes : (room : ℕ) (o : Outcome) (a : Result ℕ ℕ) (r : ℕ) (old new : List ℕ) → Answers (roomed room o) a old new
    → r ≡ numbered a
    → Codes (roomed room o) r old new
roomed_codes room o = codes (roomed room o)

-- a byte over 4
pub no_layout_codes : (byte : ℕ) (o : Layout → Outcome) (old : List ℕ) → 4 < byte → Codes (stated byte o) 4294967311 old old
unfolding stated
no_layout_codes byte o old h = rw (lt-ltb 4 byte h) (refl, refl)

-- any other
pub layout_codes : (byte : ℕ) (o : Layout → Outcome) (l : Layout) (a : Result ℕ ℕ) (r : ℕ) (old new : List ℕ) → States byte l
    → Answers (o l) a old new → r ≡ numbered a → Codes (stated byte o) r old new
unfolding stated
layout_codes byte o l a r old new z g f =
    rw (le-ltb 4 byte z.known) (subst (λ (x : Layout). Codes (o x) r old new) z.is (codes (o l) a r old new g f))

-- ---- a mode byte

pub is_plain : (byte : ℕ) → byte ≡ 0 → Plain ≡ mode_of byte
unfolding mode_of
is_plain byte e = rw (eq-eqb byte 0 e)

pub is_even : (byte : ℕ) → (byte ≡ 0 → ⊥) → Even ≡ mode_of byte
unfolding mode_of
is_even byte h = rw (ne_eqb byte 0 h)

-- the byte states this mode
pub record Chooses (byte : ℕ) (m : Mode) : Type 0 where
  pub known : byte ≤ 1
  pub is : m ≡ mode_of byte

module _ (layout mode : ℕ) (o : Layout → Mode → Outcome) where
  -- a mode byte over 1
  pub no_mode_codes : (old : List ℕ) → layout ≤ 4 → 1 < mode → Codes (stated layout (λ l. chosen mode (o l))) 4294967311 old old
  unfolding stated chosen
  no_mode_codes old h k = rw (le-ltb 4 layout h, lt-ltb 1 mode k) (refl, refl)

  -- any other
  pub mode_codes : (l : Layout) (m : Mode) → States layout l → Chooses mode m → (a : Result ℕ ℕ) (r : ℕ) (old new : List ℕ)
      → Answers (o l m) a old new → r ≡ numbered a → Codes (stated layout (λ k. chosen mode (o k))) r old new
  unfolding chosen
  mode_codes l m y z a r old new g f =
      layout_codes layout (λ k. chosen mode (o k)) l a r old new y
      (rw (le-ltb 1 mode z.known) (subst (λ (x : Mode). Answers (o l x) a old new) z.is g)) f

-- ---- space that is lent for work

module _ (layout mode : ℕ) (used : Layout → Bool) (file strings : ℕ) (text ends work : List ℕ) where
  -- a byte that states nothing: the space stays as it is
  unused : used_by layout mode used ≡ false → LeavesSpace (used_by layout mode used) file strings text text ends ends work work
  unused e = rw e (record { of_text = refl; of_ends = refl; of_work = refl })

  pub no_layout_space : 4 < layout → LeavesSpace (used_by layout mode used) file strings text text ends ends work work
  unfolding used_by
  no_layout_space h = unused (rw (lt-ltb 4 layout h))

  pub no_mode_space : layout ≤ 4 → 1 < mode → LeavesSpace (used_by layout mode used) file strings text text ends ends work work
  unfolding used_by
  no_mode_space h k = unused (rw (le-ltb 4 layout h, lt-ltb 1 mode k))

  -- any other
  pub mode_space : (l : Layout) (m : Mode) → States layout l → Chooses mode m → (text' ends' work' : List ℕ)
      → LeavesSpace (used l) file strings text text' ends ends' work work'
      → LeavesSpace (used_by layout mode used) file strings text text' ends ends' work work'
  unfolding used_by
  mode_space l m y z text' ends' work' w =
      rw (le-ltb 4 layout y.known, le-ltb 1 mode z.known, ← y.is) w

module _ (layout : ℕ) (after : Layout → List ℕ) (old : List ℕ) where
  pub no_layout_work : 4 < layout → old ≡ work_by layout after old
  unfolding work_by
  no_layout_work h = rw (lt-ltb 4 layout h)

  pub layout_work : (l : Layout) → States layout l → (new : List ℕ) → new ≡ after l → new ≡ work_by layout after old
  unfolding work_by
  layout_work l y new e = e ∙ ap after y.is ∙ rw (le-ltb 4 layout y.known)

-- where there is a mode too
module _ (layout mode : ℕ) (after : Layout → List ℕ) (old : List ℕ) where
  pub no_layout_in : 4 < layout → old ≡ work_in layout mode after old
  unfolding work_in
  no_layout_in h = rw (lt-ltb 4 layout h)

  pub no_mode_in : layout ≤ 4 → 1 < mode → old ≡ work_in layout mode after old
  unfolding work_in
  no_mode_in h k = rw (le-ltb 4 layout h, lt-ltb 1 mode k)

  pub mode_in : (l : Layout) (m : Mode) → States layout l → Chooses mode m → (new : List ℕ) → new ≡ after l
      → new ≡ work_in layout mode after old
  unfolding work_in
  mode_in l m y z new e = e ∙ ap after y.is ∙ rw (le-ltb 4 layout y.known, le-ltb 1 mode z.known)

-- ---- an answer that is a reason

pub reason_refused : (room k n : ℕ) (old : List ℕ) → n ≡ k
    → Codes (roomed room (reason_words (reason-is.Refused k))) (4294967296 + n) old old
unfolding roomed
reason_refused room k n old e = rw e (refl, refl)

pub reason_codes : (layout mode : ℕ) (f : Layout → Mode → Reason) (l : Layout) (m : Mode) → States layout l → Chooses mode m
    → (room : ℕ) (r : Reason) → r ≡ f l m → (n : ℕ) (old new : List ℕ) → Codes (roomed room (reason_words r)) n old new
    → Codes (stated layout (λ k. chosen mode (λ j. roomed room (reason_words (f k j))))) n old new
unfolding stated chosen
reason_codes layout mode f l m y z room r e n old new g =
    rw (le-ltb 4 layout y.known, le-ltb 1 mode z.known)
    (subst (λ (k : Layout). Codes (roomed room (reason_words (f k (mode_of mode)))) n old new) y.is
    (subst (λ (j : Mode). Codes (roomed room (reason_words (f l j))) n old new) z.is
    (subst (λ (q : Reason). Codes (roomed room (reason_words q)) n old new) e g)))

-- ---- an answer that counts strings

module _ (layout : ℕ) (f : Layout → Result ℕ ℕ) where
  pub no_layout_count : 4 < layout → 4294967311 ≡ count_stated layout f
  unfolding count_stated
  no_layout_count h = rw (lt-ltb 4 layout h)

  pub layout_count : (l : Layout) → States layout l → (a : Result ℕ ℕ) (r : ℕ) → a ≡ f l → r ≡ numbered a
      → r ≡ count_stated layout f
  unfolding count_stated
  layout_count l y a r e g = g ∙ ap numbered (e ∙ ap f y.is) ∙ rw (le-ltb 4 layout y.known)
