-- What `write_po` makes, by the way that it takes: 1 to 6, 13 for the work space, else what the file has room for.
use Rattle.std.specs.Prelude.{Err, Ok, Result}
use mathlib.Core.Path.{◌≡◌, refl, ap, sym, ◌∙◌}
use mathlib.Core.Bool.{Bool, true, false}
use mathlib.Core.List.{List, [], ◌∷◌, ◌++◌}
use Prim.Native.Nat.{ℕ, ◌-◌, ◌*◌, ◌≤◌, ◌<◌}
use native.Mathlib.Omega.{arith}
use borrow.Author.Tests.{ltb-true, ltb-false, lt-ltb, le-ltb, ne_eqb}
use lib.Dec.{ltb}
use lib.ListN.{length, take, drop, replicate}
use lib.Seq.{length-take-le}
use Rattle.refusals.specs.Numbers as refusals
use Rattle.bits.specs.Choice.{pick, check, judge}
use Rattle.bits.specs.Outcome.{refused, made, outcome_for, roomed, Answers}
use Rattle.bits.proofs.OutcomeLaws.{one_answer, roomed_more}
use Rattle.format.specs.declared.Layout.{Layout}
use Rattle.image.specs.Sections.{strings_in}
use Rattle.image.specs.Admission.{checks}
use Rattle.sections.specs.declared.Places.{Places}
use Rattle.sections.specs.Places.{places_of}
use Rattle.admission.specs.Admission.{admission}
use Rattle.admission.proofs.AnswerLaws.{refused_is, refused_then, laid-is, laid_then, laid_layout}
use Rattle.po_write.specs.File.{po_of, words_for, write_refusal, longest_file, room_for, write_po, work_after}
use Rattle.po_write.proofs.FileLaws.{fits-room}

-- the answer, and both lent buffers afterwards
abbrev pub Writes : Layout → List ℕ → List ℕ → List ℕ → Result ℕ ℕ → List ℕ → List ℕ → Type 0
Writes l s work out a work' out' = Answers (write_po l s (length work) (length out)) a out out' × (work' ≡ work_after l s work)

-- two runs on the same input end alike
pub one_write : (l : Layout) (s work out : List ℕ) (a a' : Result ℕ ℕ) (work₁ work₂ out₁ out₂ : List ℕ)
    → Writes l s work out a work₁ out₁ → Writes l s work out a' work₂ out₂
    → (a ≡ a') × (out₁ ≡ out₂) × (work₁ ≡ work₂)
one_write l s work out a a' work₁ work₂ out₁ out₂ p q =
    let e = one_answer (write_po l s (length work) (length out)) a a' out out₁ out₂ p.0 q.0 in
    (e.0, e.1, p.1 ∙ sym q.1)

-- a longer buffer changes no answer but 13
pub longer_room : (l : Layout) (s : List ℕ) (words room more : ℕ) → room ≤ more → (write_po l s words room ≡ refused 13 → ⊥)
    → write_po l s words more ≡ write_po l s words room
unfolding write_po
longer_room l s words room more h k =
    roomed_more (outcome_for (write_refusal l s words) (po_of l s)) (room_for room) (room_for more) (counts (ltb room longest_file) refl) k
  where
    counts : (t : Bool) → ltb room longest_file ≡ t → pick t room longest_file ≤ room_for more
    counts true e = fits-room more room h (omega (arith, ltb-true room longest_file e))
    counts false e = fits-room more longest_file (omega (arith, ltb-false room longest_file e)) (omega arith)

-- the part of the work space that is lent further
pub lent-words : (n : ℕ) (work : List ℕ) → n ≤ length work → length (take (n - 0) work) ≡ n
lent-words n work h = let k : n - 0 ≡ n = omega arith in rw k (length-take-le n work h)

module _ (l : Layout) (s work out : List ℕ) where
  -- a refusal before the file leaves both as they are
  stopped : (n : ℕ) → 0 < n → write_refusal l s (length work) ≡ n → Writes l s work out (Err n) work out
  unfolding write_po work_after roomed
  stopped n h e = rw (e, ne_eqb n 0 (λ z. omega arith)) ((refl, refl), refl)

  module _ (r : Result Places ℕ) (e : r ≡ admission l s) where
    pub image_refused : (k : ℕ) → r ≡ Err k → Writes l s work out (Err k) work out
    unfolding write_refusal
    image_refused k f = stopped k (refused_is l s r e k f).1 (refused_then l s r e k f _)

    module _ (p : Places) (f : r ≡ Ok p) where
      strings_are : p.strings ≡ strings_in s
      unfolding places_of
      strings_are = ap (λ (q : Places). q.strings) (laid-is l s r e p f).1

      pub work_short : length work < 4 * p.strings → Writes l s work out (Err 13) work out
      unfolding write_refusal judge
      work_short h =
          stopped 13 (omega arith)
          (laid_then l s r e p f _ ∙ rw (lt-ltb (length work) (words_for s) (omega (arith, strings_are))))

      pub file_made : 4 * p.strings ≤ length work → (a : Result ℕ ℕ) (work' out' : List ℕ)
          → Answers (roomed (room_for (length out)) (made (po_of p.layout s))) a out out' × (work' ≡ replicate (4 * p.strings) 0)
          → Writes l s work out a (work' ++ drop (4 * p.strings - 0) work) out'
      unfolding write_po work_after write_refusal judge
      file_made h a work' out' w =
          let z : judge (checks l s ++ (check refusals.room (ltb (length work) (words_for s)) ∷ [])) ≡ 0
          = laid_then l s r e p f _ ∙ rw (le-ltb (length work) (words_for s) (omega (arith, strings_are))) in
          let g : p.layout ≡ l = laid_layout l s r e p f in
          let k : 4 * p.strings - 0 ≡ words_for s = omega (arith, strings_are) in
          (rw (z, ← g) w.0, rw (z, w.1, k, strings_are))
