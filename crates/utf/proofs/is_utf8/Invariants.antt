-- What is left is judged from here as the whole is.
use Prim.Native.Nat.{◌≤◌, ◌-◌}
use mathlib.Core.Path.{◌≡◌}
use lib.ListN.{length, drop}
use Rattle.utf.specs.Utf8.{Small, reading_of, is_utf8, is_well}
use Rattle.utf.proofs.is_utf8.Given as goal

abbrev pub invariant-loop-i : goal.invariant-loop-i
invariant-loop-i l = (l.i ≤ length l.value) × (is_well (reading_of l.r (drop l.i l.value)) ≡ is_utf8 l.value) × Small l.r

abbrev pub decreases-loop-i : goal.decreases-loop-i
decreases-loop-i l = length l.value - l.i
