-- Every entry before i is good, and k of them overflow.
use Prim.Native.Nat.{◌≤◌}
use Rattle.string_tables.proofs.StringLaws.{Walked}
use Rattle.string_tables.proofs.are_strings_good.Given as goal

abbrev pub invariant-loop-i : goal.invariant-loop-i
invariant-loop-i l = (l.k ≤ l.i) × Walked l.p l.image l.i l.k
