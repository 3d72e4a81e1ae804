-- Each id before number j is new.
use mathlib.Core.Path.{◌≡◌}
use mathlib.Core.Bool.{true}
use lib.ListN.{get_or}
use Rattle.bits.specs.Choice.{all_below}
use Rattle.string_edits.specs.Lists.{is_new}
use Rattle.string_edits.proofs.are_different.Given as goal

abbrev pub invariant-loop-j : goal.invariant-loop-j
invariant-loop-j l = all_below l.j (is_new (λ i. get_or l.ids i 0)) ≡ true
