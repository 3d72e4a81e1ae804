-- No string before i is long or far.
use mathlib.Core.Path.{◌≡◌}
use mathlib.Core.Bool.{true}
use Rattle.bits.specs.Choice.{all_below}
use Rattle.serialize.proofs.BuilderLaws.{small}
use Rattle.serialize.proofs.all_small.Given as goal

abbrev pub invariant-loop-i : goal.invariant-loop-i
invariant-loop-i l = all_below l.i (small l.ends) ≡ true
