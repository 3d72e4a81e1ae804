-- In place no number is met; else the rebuild's decides.
use native.Mathlib.Omega.{arith}
use Rattle.sections.proofs.SectionLaws.{Sectioned, sectioned}
use Rattle.string_reasons.proofs.AnswerLaws.{path_moves, judged_none, judged_some, judged_in_place}
use Rattle.string_reasons.proofs.judged.Goals as goal

pub judge_rebuild-requires : goal.judge_rebuild-requires
judge_rebuild-requires c =
    let a = c.args in
    record {
      laid = c.requires.laid;
      value_value = path_moves a.p.layout a.image.now a.id a.value.now _ c.requires.path_value c.in_default.not-InPlace;
    }

pub returns-in-Ok : goal.returns-in-Ok
returns-in-Ok c =
    let a = c.args in
    judged_none a.p.layout a.image.now a.id a.value.now _ c.requires.path_value a.mode _ c.in-Ok.ensures

pub returns-in-Err : goal.returns-in-Err
returns-in-Err c =
    let a = c.args in
    rw c.number.ensures (judged_some a.p.layout a.image.now a.id a.value.now _ c.requires.path_value a.mode _ c.in-Err.ensures)

pub returns : goal.returns
returns c =
    let a = c.args in
    let z : Sectioned a.p a.image.now = sectioned _ _ c.requires.laid.0.placed in
    judged_in_place a.p.layout a.image.now a.id a.value.now _ c.requires.path_value a.mode c.in-InPlace.is
    (omega (arith, c.requires.laid.1, z.strings)) z.most
