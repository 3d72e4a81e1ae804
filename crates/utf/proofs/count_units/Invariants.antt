-- The units counted so far, and those of what is left, are those of the whole.
use Prim.Native.Nat.{◌≤◌, ◌+◌}
use mathlib.Core.Path.{◌≡◌}
use lib.ListN.{length, drop}
use Rattle.utf.specs.Utf8.{Small, between, units_from}
use Rattle.utf.proofs.UnitLaws.{waits}
use Rattle.utf.proofs.count_units.Given as goal

abbrev pub invariant-loop-b : goal.invariant-loop-b
invariant-loop-b l =
    Small l.r × (l.n + waits l.r ≤ l.b-index)
    × (l.n + length (units_from l.r (drop l.b-index l.value)) ≡ length (units_from between l.value))
