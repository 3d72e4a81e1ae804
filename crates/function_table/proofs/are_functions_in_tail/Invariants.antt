-- The places of every function before i lie in the tail.
use mathlib.Core.Path.{◌≡◌}
use mathlib.Core.Bool.{true}
use Rattle.bits.specs.Choice.{all_below}
use Rattle.image.specs.Functions.{func_of}
use Rattle.function_table.specs.Functions.{function_in}
use Rattle.function_table.proofs.are_functions_in_tail.Given as goal

abbrev pub invariant-loop-i : goal.invariant-loop-i
invariant-loop-i l =
    all_below l.i (λ j. function_in l.p.layout l.image (func_of l.p.layout l.image j)) ≡ true
