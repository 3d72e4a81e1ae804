-- The end and the start of the headers before i, and the end of the bodies before i, as far as all stand in order.
use mathlib.Core.Path.{◌≡◌}
use mathlib.Core.Bool.{true}
use Rattle.bits.specs.Choice.{all_below}
use Rattle.image.specs.Functions.{func_of}
use Rattle.large_headers.specs.Order.{headers_end, headers_start, bodies_end, ascends_at}
use Rattle.large_headers.proofs.in_order.Given as goal

abbrev pub invariant-loop-i : goal.invariant-loop-i
invariant-loop-i l =
    (l.end ≡ headers_end l.width (func_of l.layout l.image) l.i) × (l.first ≡ headers_start (func_of l.layout l.image) l.i)
    × (l.bodies ≡ bodies_end (func_of l.layout l.image) l.i) × (all_below l.i (ascends_at l.width (func_of l.layout l.image)) ≡ true)
