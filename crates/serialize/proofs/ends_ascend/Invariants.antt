-- No end before i is below the one before it.
use mathlib.Core.Path.{◌≡◌}
use mathlib.Core.Bool.{true}
use Rattle.bits.specs.Choice.{all_below}
use Rattle.serialize.proofs.BuilderLaws.{ascending}
use Rattle.serialize.proofs.ends_ascend.Given as goal

abbrev pub invariant-loop-i : goal.invariant-loop-i
invariant-loop-i l = all_below l.i (ascending l.ends) ≡ true
