-- No id before number i is the one of number j.
use mathlib.Core.Path.{◌≡◌}
use mathlib.Core.Bool.{true, not}
use lib.Dec.{eqb}
use lib.ListN.{get_or}
use Rattle.bits.specs.Choice.{all_below}
use Rattle.string_edits.proofs.is_new.Given as goal

abbrev pub invariant-loop-i : goal.invariant-loop-i
invariant-loop-i l = all_below l.i (λ k. not (eqb (get_or l.ids k 0) (get_or l.ids l.j 0))) ≡ true
