-- Every function before j leaves the body alone.
use mathlib.Core.Path.{◌≡◌}
use mathlib.Core.Bool.{true}
use Rattle.bits.specs.Choice.{all_below}
use Rattle.function_checks.proofs.AloneLaws.{alone_at}
use Rattle.function_checks.proofs.stands_alone.Given as goal

abbrev pub invariant-loop-j : goal.invariant-loop-j
invariant-loop-j l = all_below l.j (alone_at l.layout l.image l.id) ≡ true
