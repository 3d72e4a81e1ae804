-- 11 for a value that is too long for a list of edits; else the list of one.
use native.Mathlib.Omega.{arith}
use Rattle.sections.proofs.SectionLaws.{Sectioned, sectioned}
use Rattle.strings.proofs.LongLaws.{long_refused}
use Rattle.strings.proofs.PassLaws.{one_listed, one_known, one_answers}
use Rattle.strings.proofs.patch_one.Goals as goal

pub returns-then-value-gt-LONGEST : goal.returns-then-value-gt-LONGEST
returns-then-value-gt-LONGEST c =
    let a = c.args in
    let q = c.requires in
    long_refused a.mode a.p a.image.now q.0 a.id q.1 a.value.now q.2 c.if-value-gt-LONGEST.true a.out.now

pub overflow_cast-ids : goal.overflow_cast-ids
overflow_cast-ids c =
    let z : Sectioned c.args.p c.args.image.now = sectioned _ _ c.requires.0.placed in
    omega (arith, c.requires.1)

pub patch_known-requires : goal.patch_known-requires
patch_known-requires c =
    let q = c.requires in
    record {
      laid = (q.0, one_listed _ _);
      by_index = one_known _ _ q.1;
    }

pub returns : goal.returns
returns c =
    let a = c.args in
    one_answers a.mode a.p.layout a.image.now a.id a.value.now a.out.now _ _ c.patch_known.ensures
