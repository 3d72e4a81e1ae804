-- The hash so far, taken on over what is left, is that of the whole.
use mathlib.Core.Path.{◌≡◌}
use lib.ListN.{drop}
use Rattle.format.specs.Hash.{hash_from}
use Rattle.utf.specs.Utf8.{Small, between, units_from}
use Rattle.utf.proofs.hash_value.Given as goal

abbrev pub invariant-loop-b : goal.invariant-loop-b
invariant-loop-b l =
    Small l.r × (hash_from l.h (units_from l.r (drop l.b-index l.value)) ≡ hash_from 0 (units_from between l.value))
