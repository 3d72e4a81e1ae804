-- 1 to 6, then 13 for the space that is lent; else the file decides.
use Rattle.std.specs.Prelude.{Err, Ok, Result}
use mathlib.Core.Path.{◌≡◌, refl, ap, sym, ◌∙◌}
use mathlib.Core.Bool.{Bool, true, false, not}
use mathlib.Core.List.{List}
use Prim.Native.Nat.{ℕ}
use native.Mathlib.Omega.{arith}
use borrow.Author.Tests.{ne_eqb, not-true, not-false}
use lib.Dec.{eqb}
use lib.ListN.{length}
use Rattle.refusals.specs.Numbers as refusals
use Rattle.bits.specs.Outcome.{Answers}
use Rattle.format.specs.declared.Layout.{Layout}
use Rattle.format.specs.declared.Mode.{Mode}
use Rattle.image.specs.Sections.{strings_in}
use Rattle.image.specs.Admission.{refusal}
use Rattle.sections.specs.declared.Places.{Places}
use Rattle.sections.specs.Places.{Laid}
use Rattle.sections.proofs.SectionLaws.{sectioned}
use Rattle.admission.specs.Admission.{admission}
use Rattle.admission.proofs.AnswerLaws.{refused_is, laid-is, laid_layout}
use Rattle.po_pairs.specs.Pairs.{read_file}
use Rattle.translate.specs.Translate.{applied, translated}
use Rattle.translate.specs.Space.{Space, lent, is_enough, is_read, read_po, LeavesSpace}

-- what `read_po` promises
abbrev pub Promised : Mode → Layout → List ℕ → List ℕ → List ℕ → List ℕ → List ℕ → List ℕ → Result ℕ ℕ
    → List ℕ → List ℕ → List ℕ → List ℕ
    → Type 0
Promised m l s file text ends work out r text' ends' work' out' =
    Answers (read_po m l s (length out) file (lent text ends work)) r out out'
    × LeavesSpace (is_read l s file (lent text ends work)) (length file) (strings_in s) text text' ends ends' work work'

module _ (m : Mode) (l : Layout) (s file text ends work out : List ℕ) (r : Result Places ℕ) (e : r ≡ admission l s) where
  abbrev space : Space
  space = lent text ends work

  -- a space that is not used stays as it is
  unused : is_read l s file space ≡ false → LeavesSpace (is_read l s file space) (length file) (strings_in s) text text ends ends work work
  unused f = rw f (record { of_text = refl; of_ends = refl; of_work = refl })

  pub image_refused : (k : ℕ) → r ≡ Err k → Promised m l s file text ends work out (Err k) text ends work out
  unfolding read_po is_read
  image_refused k f =
      let (q, h) = refused_is l s r e k f in
      let z : eqb (refusal l s) 0 ≡ false = rw q (ne_eqb k 0 (λ y. omega arith)) in
      let i : is_read l s file space ≡ false = rw z in
      (rw (i, z, q) (refl, refl), unused i)

  module _ (p : Places) (f : r ≡ Ok p) (laid : Laid p s) where
    passed : refusal l s ≡ 0
    passed = (laid-is l s r e p f).0

    strings : p.strings ≡ strings_in s
    strings = (sectioned p s laid.placed).strings

    read_is : is_read l s file space ≡ is_enough (length file) p.strings space
    unfolding is_read
    read_is = rw (passed, strings)

    pub too_short : (b : Bool) → b ≡ is_enough (length file) p.strings space → not b ≡ true
        → Promised m l s file text ends work out (Err refusals.room) text ends work out
    unfolding read_po
    too_short b q g =
        let i : is_read l s file space ≡ false = read_is ∙ sym q ∙ not-true b g in
        (rw (i, passed) (refl, refl), unused i)

    pub is_read_lem : (b : Bool) → b ≡ is_enough (length file) p.strings space → not b ≡ false
        → (a : Result ℕ ℕ) (text' ends' work' out' : List ℕ)
        → Answers (applied m p.layout s (length out) (read_file file)) a out out'
        × LeavesSpace true (length file) p.strings text text' ends ends' work work'
        → Promised m l s file text ends work out a text' ends' work' out'
    unfolding read_po translated
    is_read_lem b q g a text' ends' work' out' (w, k) =
        let i : is_read l s file space ≡ true = read_is ∙ sym q ∙ not-false b g in
        let o : p.layout ≡ l = laid_layout l s r e p f in
        (rw (i, passed, ← o) w, rw (i, ← strings) k)
