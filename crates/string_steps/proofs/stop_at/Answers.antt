-- Where all fit in place only the room may be short; else the patch is judged by the plan of its rebuild.
use mathlib.Core.Path.{ap, sym, ◌∙◌}
use native.Mathlib.Omega.{arith}
use Rattle.bits.specs.Outcome.{passed}
use Rattle.string_rebuild.proofs.JudgeLaws.{planned_length, refusal_is}
use Rattle.string_steps.proofs.StopLaws.{placed_short, placed-fits}
use Rattle.string_steps.proofs.stop_at.Goals as goal

pub judge-requires : goal.judge-requires
judge-requires c =
    let q = c.requires in
    (q.laid.0, omega (arith, planned_length _ _ _ _ _ c.plan_rebuild-plan.ensures))

pub returns-then-not-fits : goal.returns-then-not-fits
returns-then-not-fits c =
    let q = c.requires in
    c.judge.ensures
    ∙ ap passed (refusal_is _ _ _ _ _ q.laid.0 (sym q.fits_value ∙ c.if-not-fits.true) c.plan_rebuild-plan.ensures _)

pub returns-then-room-image : goal.returns-then-room-image
returns-then-room-image c =
    let q = c.requires in
    ap passed (placed_short _ _ _ _ q.laid.0.admitted (sym q.fits_value ∙ c.if-not-fits.false) _ c.if-room-image.true)

pub returns : goal.returns
returns c =
    let q = c.requires in
    ap passed (placed-fits _ _ _ _ q.laid.0.admitted (sym q.fits_value ∙ c.if-not-fits.false) _ (omega (arith, c.if-room-image.false)))
