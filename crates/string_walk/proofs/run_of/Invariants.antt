-- The run is one of the image's, and starts at or before the id; kinds left fall.
use Prim.Native.Nat.{◌-◌}
use Rattle.string_walk.specs.Runs.{RunOf, Reaches}
use Rattle.string_walk.proofs.run_of.Given as goal

abbrev pub invariant-loop-run : goal.invariant-loop-run
invariant-loop-run l = RunOf l.p l.image l.run × Reaches l.p l.image l.run l.id

abbrev pub decreases-loop-run : goal.decreases-loop-run
decreases-loop-run l = l.p.kinds - l.run.count
