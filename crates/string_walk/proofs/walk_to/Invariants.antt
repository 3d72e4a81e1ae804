-- What is visited is what the walk over the strings before the next one visits.
use mathlib.Core.Path.{◌≡◌}
use Rattle.string_walk.specs.Walk.{Walked}
use Rattle.string_walk.proofs.walk_to.Given as goal

abbrev pub invariant-loop-i : goal.invariant-loop-i
invariant-loop-i l = (l.counts.small ≡ l._i) × Walked l.p.layout l.image l.counts
