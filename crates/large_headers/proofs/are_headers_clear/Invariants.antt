-- The large header of every function before j is clear.
use mathlib.Core.Path.{◌≡◌}
use mathlib.Core.Bool.{true}
use Rattle.bits.specs.Choice.{all_below}
use Rattle.large_headers.specs.Clear.{header_clear}
use Rattle.large_headers.proofs.are_headers_clear.Given as goal

abbrev pub invariant-loop-j : goal.invariant-loop-j
invariant-loop-j l = all_below l.j (header_clear l.layout l.image) ≡ true
