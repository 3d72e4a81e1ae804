-- No byte from `at` up to i is below 32.
use Prim.Native.Nat.{ℕ, ◌≤◌, ◌<◌}
use lib.ListN.{get_or}
use Rattle.po_lines.proofs.first_low.Given as goal

abbrev pub invariant-loop-i : goal.invariant-loop-i
invariant-loop-i l = (j : ℕ) → l.at ≤ j → j < l.i → 32 ≤ get_or l.file j 0
