-- The words of what was found, or the refusal of the look-up.
use mathlib.Core.Path.{refl}
use Rattle.std.proofs.lemmas.Result.{err_from_is_err_and}
use Rattle.bits.specs.Outcome.{roomed}
use Rattle.hbc.proofs.put_looked_up.Goals as goal

pub returns-in_err-entry : goal.returns-in_err-entry
unfolding roomed
returns-in_err-entry c =
    let e = err_from_is_err_and c.from_residual.result c.from_residual.ensures.1 in
    rw (e.1, e.2, c.in_err-entry.was) (refl, refl)

pub returns : goal.returns
returns c = rw c.in_ok-entry.was c.put_words.ensures
