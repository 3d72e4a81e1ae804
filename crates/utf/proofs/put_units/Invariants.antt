-- The units written so far, and those of what is left behind them, are those of the whole.
use Prim.Native.Nat.{◌≤◌, ◌+◌}
use mathlib.Core.Path.{◌≡◌}
use lib.ListN.{length, drop}
use lib.Seq.{sets}
use Rattle.utf.specs.Utf8.{Small, between, units_from, unit_bytes}
use Rattle.utf.proofs.put_units.Given as goal

abbrev pub invariant-loop-b : goal.invariant-loop-b
invariant-loop-b l =
    Small l.r × (length l.out ≡ length l.initial.out)
    × (l.to + length (unit_bytes (units_from l.r (drop l.b-index l.value))) ≤ length l.out)
    × (sets l.out l.to (unit_bytes (units_from l.r (drop l.b-index l.value)))
    ≡ sets l.initial.out l.at (unit_bytes (units_from between l.value)))
