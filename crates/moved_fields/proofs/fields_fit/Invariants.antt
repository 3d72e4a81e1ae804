-- The moved places of every function before i fit its record.
use mathlib.Core.Path.{◌≡◌}
use mathlib.Core.Bool.{true}
use Rattle.bits.specs.Choice.{all_below}
use Rattle.format.specs.Move.{moved}
use Rattle.moved_fields.proofs.FitLaws.{fits_at}
use Rattle.moved_fields.proofs.fields_fit.Given as goal

abbrev pub invariant-loop-i : goal.invariant-loop-i
invariant-loop-i l = all_below l.i (fits_at l.layout l.image (moved l.from l.to)) ≡ true
