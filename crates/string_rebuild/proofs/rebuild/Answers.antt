-- The plan meets what the patch is refused with; where it meets nothing, the image is written by it.
use Rattle.std.proofs.lemmas.Result.{err_from_is_err_and}
use mathlib.Core.Path.{sym, ◌∙◌}
use native.Mathlib.Omega.{arith}
use lib.ListN.{length}
use Rattle.string_in_place.proofs.FinishLaws.{room-written, part_length}
use Rattle.string_rebuild.proofs.JudgeLaws.{planned_tail, planned_length, passed_none, MeetsNone, none_met, met_refused, makes}
use Rattle.string_rebuild.proofs.rebuild.Goals as goal
use Rattle.string_rebuild.proofs.rebuild.Goals.{In_ok-judge}

-- nothing was met
passed : (c : In_ok-judge) → let a = c.args in
    MeetsNone a.p a.image.now c.plan_rebuild-plan.result (length a.out.now)
passed c = none_met _ _ _ _ (passed_none _ (sym c.judge.ensures ∙ c.in_ok-judge.was))

pub judge-requires : goal.judge-requires
judge-requires c =
    let q = c.requires in
    (q.given.laid, omega (arith, planned_length _ _ _ _ _ c.plan_rebuild-plan.ensures))

pub returns-in_err-judge : goal.returns-in_err-judge
returns-in_err-judge c =
    let q = c.requires in
    let e = err_from_is_err_and c.from_residual.result c.from_residual.ensures.1 in
    rw (e.1, e.2)
    (met_refused _ _ _ _ _ q.given.laid q.moves c.plan_rebuild-plan.ensures _ _ (sym c.judge.ensures ∙ c.in_err-judge.was))

pub slice_bounds-put_rebuilt-end : goal.slice_bounds-put_rebuilt-end
slice_bounds-put_rebuilt-end c = (passed (goal.at.slice_bounds-put_rebuilt-end c).In_ok-judge).enough

pub put_rebuilt-requires : goal.put_rebuilt-requires
put_rebuilt-requires c =
    let plan = c.plan_rebuild-plan.result in
    let pl = c.plan_rebuild-plan.ensures in
    let ok = passed (goal.at.put_rebuilt-requires c).In_ok-judge in
    let long = part_length c.args.out.now plan.length ok.enough in
    record {
      asked = c.requires;
      measured = pl.measured;
      tail = planned_tail _ _ _ _ _ pl;
      long = long ∙ planned_length _ _ _ _ _ pl;
      limit = rw long ok.limit;
      fields = ok.fields;
    }

pub returns : goal.returns
returns c =
    let q = c.requires in
    let ok = passed (goal.at.returns c).In_ok-judge in
    room-written _ _ _ _ (makes _ _ _ _ _ q.given.laid q.moves c.plan_rebuild-plan.ensures _ ok) ok.enough _ _
    c.put_rebuilt.ensures
