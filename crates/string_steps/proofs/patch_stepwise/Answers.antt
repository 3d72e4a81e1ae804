-- The single patches are the one patch of all, but for where one of them stops.
use Rattle.std.proofs.lemmas.Result.{err_from_is_err_and}
use Rattle.string_edits.specs.Told.{told, values_in}
use Rattle.string_edits.specs.declared.Form.TheVariants.{Marks}
use Rattle.string_steps.specs.Steps.{Sound}
use Rattle.string_steps.proofs.MarkLaws.{sound}
use Rattle.string_steps.proofs.StopLaws.{steps_refused, steps_made}
use Rattle.string_steps.proofs.patch_stepwise.Goals as goal
use Rattle.string_steps.proofs.patch_stepwise.Goals.{After-stop_of}

-- the values are UTF-8, and of bytes
told-sound : (c : After-stop_of) → let a = c.args in
    Sound a.p.layout a.image.now (values_in (told Marks a.marks.now) a.text.now a.ends.now)
told-sound c = sound _ _ _ _ _ c.requires (λ i. (c.type_inv.text i).fits)

pub returns-in_err-stop_of : goal.returns-in_err-stop_of
returns-in_err-stop_of c =
    let e = err_from_is_err_and c.from_residual.result c.from_residual.ensures.1 in
    rw (e.1, e.2)
    (steps_refused _ _ _ _ _ (told-sound (goal.at.returns-in_err-stop_of c).After-stop_of) _ c.stop_of.ensures _ c.in_err-stop_of.was _)

pub returns : goal.returns
returns c =
    rw (steps_made _ _ _ _ _ (told-sound (goal.at.returns c).After-stop_of) _ c.stop_of.ensures _ c.in_ok-stop_of.was)
    c.patch_known.ensures
