-- The file is read, its pairs are looked up, and the strings that they go to get their msgstrs: each leaves what the next one asks for.
use mathlib.Core.Path.{ap, ◌∙◌}
use mathlib.Core.Bool.{not}
use native.Mathlib.Omega.{arith}
use Rattle.translate.proofs.ApplyLaws.{read_of, read_outside, lent_still, entered, apart, MarkedOf, marked_all}
use Rattle.translate.proofs.ApplyLaws.{stepped, absent, unread}
use Rattle.translate.proofs.apply.Goals as goal
use Rattle.translate.proofs.apply.Goals.{After-mark}

-- what the look-up left
marked : (c : After-mark) → let a = c.args in
    let w = c.read_pairs.new in
    MarkedOf a.p a.image.now a.file.now w.text w.ends c.mark.new.work c.in-Some.count
marked c = let k = c.read_pairs.auto in
    record {
      laid = c.requires.0;
      lends = lent_still _ _ _ _ _ _ _ _ c.requires.1 k.text k.ends (c.mark.auto.work ∙ k.work);
      old = c.read_pairs.new.work;
      read = read_of c.args.file.now _ _ _ _ _ c.read_pairs.ensures c.in-Some.is;
      mark = c.mark.ensures.by_index;
    }

pub read_pairs-requires : goal.read_pairs-requires
read_pairs-requires c =
    let q = c.requires.1 in
    (record { bytes = q.for_text; words = q.for_ends; low = q.low }, omega (arith, q.for_ends, q.for_work))

pub returns-in_default : goal.returns-in_default
returns-in_default c =
    let a = c.args in
    unread a.mode _ _ a.out.now a.file.now
    (read_outside a.file.now _ _ _ _ c.read_pairs.ensures c.in_default.is)

pub mark-requires : goal.mark-requires
mark-requires c =
    let k = c.read_pairs.auto in
    let l = lent_still _ _ _ _ _ _ _ _ c.requires.1 k.text k.ends k.work in
    let rd = read_of c.args.file.now _ _ _ _ _ c.read_pairs.ensures c.in-Some.is in
    record {
      laid = c.requires.0;
      entered = (entered _ _ _ _ _ _ l rd, omega (arith, l.for_ends, l.for_work));
      different = apart _ _ _ _ _ _ l rd;
    }

pub returns-then-not-mark : goal.returns-then-not-mark
returns-then-not-mark c =
    let a = c.args in
    absent _ _ _ _ _ _ _ (marked (goal.at.returns-then-not-mark c).After-mark) a.mode a.out.now _ c.mark.ensures.value
    (ap not c.if-not-mark.true)

pub patch_stepwise-requires : goal.patch_stepwise-requires
patch_stepwise-requires c = marked_all _ _ _ _ _ _ _ (marked (goal.at.patch_stepwise-requires c).After-mark)

pub returns : goal.returns
returns c =
    let a = c.args in
    stepped _ _ _ _ _ _ _ (marked (goal.at.returns c).After-mark) a.mode a.out.now _ _ _ c.mark.ensures.value (ap not c.if-not-mark.false)
    c.patch_stepwise.ensures
