-- The records and large headers of the functions before i are written.
use mathlib.Core.Path.{◌≡◌}
use lib.ListN.{length}
use Rattle.edits.specs.Edit.{write_all, groups}
use Rattle.relocate.specs.Relocate.{function_group}
use Rattle.relocate.proofs.relocate_functions.Given as goal

abbrev pub invariant-loop-i : goal.invariant-loop-i
invariant-loop-i l =
    (length l.out ≡ length l.initial.out)
    × (l.out ≡ write_all (groups l.i (function_group l.layout l.image l.m)) l.initial.out)
