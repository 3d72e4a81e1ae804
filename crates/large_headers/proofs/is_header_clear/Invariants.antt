-- The large header of function j is clear of every function before i.
use mathlib.Core.Path.{◌≡◌}
use mathlib.Core.Bool.{true}
use Rattle.bits.specs.Choice.{all_below}
use Rattle.large_headers.specs.Clear.{clear_at}
use Rattle.large_headers.proofs.is_header_clear.Given as goal

abbrev pub invariant-loop-i : goal.invariant-loop-i
invariant-loop-i l = all_below l.i (clear_at l.layout l.image l.j) ≡ true
