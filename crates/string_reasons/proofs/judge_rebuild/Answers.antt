-- By the plan for the list of one edit, in the room that it asks for.
use mathlib.Core.Path.{ap, ◌∙◌}
use native.Mathlib.Omega.{arith}
use Rattle.bits.specs.Outcome.{passed}
use Rattle.sections.proofs.SectionLaws.{Sectioned, sectioned}
use Rattle.strings.proofs.PassLaws.{one_listed}
use Rattle.string_reasons.proofs.PathLaws.{one_planned, plan_rises, plan_judged}
use Rattle.string_reasons.proofs.judge_rebuild.Goals as goal

pub overflow_cast-ids : goal.overflow_cast-ids
overflow_cast-ids c =
    let z : Sectioned c.args.p c.args.image.now = sectioned _ _ c.requires.laid.0.placed in
    omega (arith, c.requires.laid.1)

pub plan_rebuild-plan-requires : goal.plan_rebuild-plan-requires
plan_rebuild-plan-requires c = (c.requires.laid.0, one_listed _ _)

pub judge-requires : goal.judge-requires
judge-requires c =
    let a = c.args in
    let plan = one_planned a.mode a.p a.image.now a.id a.value.now _ c.plan_rebuild-plan.ensures in
    (c.requires.laid.0, plan_rises a.mode a.p a.image.now a.id a.value.now _ plan)

pub returns : goal.returns
returns c =
    let a = c.args in
    let q = c.requires in
    c.judge.ensures
    ∙ ap passed (plan_judged a.mode a.p a.image.now a.id a.value.now _ q.laid.0 q.laid.1 q.value_value
    (one_planned a.mode a.p a.image.now a.id a.value.now _ c.plan_rebuild-plan.ensures))
