-- Just what is asked for is lent further, and cleared when it is back; what stands behind it is never lent.
use mathlib.Core.Path.{◌≡◌, ap, ◌∙◌}
use Prim.Native.Nat.{ℕ, ◌+◌, ◌*◌, ◌≤◌}
use mathlib.Core.List.{List, ◌++◌}
use native.Mathlib.Omega.{arith}
use lib.ListN.{length, drop, replicate}
use Rattle.sections.specs.declared.Places.{Places}
use Rattle.sections.specs.Places.{Laid}
use Rattle.sections.proofs.SectionLaws.{Sectioned, sectioned}
use Rattle.translate.specs.Space.{words_for}
use Rattle.translate.proofs.SpaceLaws.{lent-long, enough, part_within, part_cleared}
use Rattle.translate.proofs.apply_in.Goals as goal
use Rattle.translate.proofs.apply_in.Goals.{After-words_for-words}

strings_few : (p : Places) (s : List ℕ) → Laid p s → p.strings ≤ 16777216
strings_few p s l = let z : Sectioned p s = sectioned p s l.placed in omega arith

-- what is lent is enough, by the number of words that was counted
record Counted (file strings words text ends work : ℕ) : Type 0 where
  is : words ≡ words_for file
  in_text : file ≤ text
  in_ends : words ≤ ends
  in_work : words * 3 + strings ≤ work

counted : (c : After-words_for-words) → let a = c.args in
    Counted (length a.file.now) a.p.strings c.words_for-words.result (length a.text.now) (length a.ends.now)
    (length a.work.now)
counted c = let e = enough _ _ _ c.requires.1 in
    let w = c.words_for-words.ensures.0 in
    record { is = w; in_text = e.text; in_ends = omega (arith, e.ends, w); in_work = omega (arith, e.work, w) }

pub overflow_add-all : goal.overflow_add-all
overflow_add-all c = omega (arith, c.words_for-words.ensures.1, strings_few _ _ c.requires.0)

pub slice_bounds-apply-end : goal.slice_bounds-apply-end
slice_bounds-apply-end c = omega (arith, (enough _ _ _ c.requires.1).text)

pub slice_bounds-apply-end-2 : goal.slice_bounds-apply-end-2
slice_bounds-apply-end-2 c = omega (arith, (enough _ _ _ c.requires.1).ends, c.words_for-words.ensures.0)

pub slice_bounds-apply-end-3 : goal.slice_bounds-apply-end-3
slice_bounds-apply-end-3 c = omega (arith, (enough _ _ _ c.requires.1).work, c.words_for-words.ensures.0)

pub apply-answer-requires : goal.apply-answer-requires
apply-answer-requires c =
    let a = c.args in
    let k = counted (goal.at.apply-answer-requires c).After-words_for-words in (
      c.requires.0,
      record {
        low = (enough _ _ _ c.requires.1).low;
        for_text = lent-long a.text.now _ k.in_text;
        for_ends = lent-long a.ends.now _ k.in_ends ∙ k.is;
        for_work = lent-long a.work.now _ k.in_work ∙ ap (λ (n : ℕ). n * 3 + a.p.strings) k.is;
      },
    )

pub put_zeros-requires : goal.put_zeros-requires
put_zeros-requires c =
    let a = c.args in
    omega (
      arith,
      part_within a.text.now c.apply-answer.new.text (length a.file.now)
          (counted (goal.at.put_zeros-requires c).After-words_for-words).in_text c.apply-answer.auto.text,
    )

pub clear-requires : goal.clear-requires
clear-requires c =
    let a = c.args in
    omega (
      arith,
      part_within a.ends.now c.apply-answer.new.ends c.words_for-words.result
          (counted (goal.at.clear-requires c).After-words_for-words).in_ends c.apply-answer.auto.ends,
    )

pub clear-requires-2 : goal.clear-requires-2
clear-requires-2 c =
    let a = c.args in
    omega (
      arith,
      part_within a.work.now c.apply-answer.new.work
          (c.words_for-words.result * 3 + a.p.strings) (counted (goal.at.clear-requires-2 c).After-words_for-words).in_work
          c.apply-answer.auto.work,
    )

pub returns : goal.returns
returns c =
    let a = c.args in
    let k = counted (goal.at.returns c).After-words_for-words in
    let e = c.apply-answer.auto in
    let w = c.apply-answer.new in
    let n = c.words_for-words.result in
    record {
      answers = c.apply-answer.ensures;
      leaves_space = record {
        of_text = part_cleared a.text.now w.text (length a.file.now) k.in_text e.text _ c.put_zeros.ensures;
        of_ends =
            part_cleared a.ends.now w.ends n k.in_ends e.ends _ c.clear.ensures
            ∙ ap (λ (x : ℕ). replicate x 0 ++ drop x a.ends.now) k.is;
        of_work =
            part_cleared a.work.now w.work (n * 3 + a.p.strings) k.in_work e.work _ c.clear-2.ensures
            ∙ ap (λ (x : ℕ). replicate (x * 3 + a.p.strings) 0 ++ drop (x * 3 + a.p.strings) a.work.now) k.is;
      };
    }
