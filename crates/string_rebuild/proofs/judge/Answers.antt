use mathlib.Core.Path.{ap}
use mathlib.Core.Bool.{not}
use native.Mathlib.Omega.{arith}
use Rattle.string_rebuild.proofs.JudgeLaws.{too_long, past_field, no_room, meets_none}
use Rattle.string_rebuild.proofs.judge.Goals as goal

pub returns-then-plan-gt-SIZE_LIMIT : goal.returns-then-plan-gt-SIZE_LIMIT
returns-then-plan-gt-SIZE_LIMIT c = too_long _ _ _ _ c.if-plan-gt-SIZE_LIMIT.true

pub returns-then-not-fields_fit : goal.returns-then-not-fields_fit
returns-then-not-fields_fit c =
    past_field _ _ _ _ (omega (arith, c.if-plan-gt-SIZE_LIMIT.false)) _ c.fields_fit.ensures (ap not c.if-not-fields_fit.true)

pub returns-then-room-plan : goal.returns-then-room-plan
returns-then-room-plan c =
    no_room _ _ _ _ (omega (arith, c.if-plan-gt-SIZE_LIMIT.false)) _ c.fields_fit.ensures (ap not c.if-not-fields_fit.false)
    c.if-room-plan.true

pub returns : goal.returns
returns c =
    meets_none _ _ _ _ (omega (arith, c.if-plan-gt-SIZE_LIMIT.false)) _ c.fields_fit.ensures (ap not c.if-not-fields_fit.false)
    (omega (arith, c.if-room-plan.false))
