-- Each id before number j is one of the strings.
use mathlib.Core.Path.{◌≡◌}
use mathlib.Core.Bool.{true}
use lib.Dec.{ltb}
use lib.ListN.{get_or}
use Rattle.bits.specs.Choice.{all_below}
use Rattle.string_edits.proofs.are_known.Given as goal

abbrev pub invariant-loop-id : goal.invariant-loop-id
invariant-loop-id l = all_below l.id-index (λ i. ltb (get_or l.ids i 0) l.strings) ≡ true
