-- The units before i are hashed: from there on, what is left of them gives the hash of all.
use mathlib.Core.Path.{◌≡◌}
use Prim.Native.Nat.{◌-◌}
use Rattle.format.specs.Hash.{hash_from, hash_of}
use Rattle.string_find.specs.Find.{units_at}
use Rattle.string_find.proofs.hash_units.Given as goal

abbrev pub invariant-loop-i : goal.invariant-loop-i
invariant-loop-i l =
    hash_from l.h (units_at l.image l.start l.wide l.i (l.count - l.i))
    ≡ hash_of (units_at l.image l.start l.wide 0 l.count)
