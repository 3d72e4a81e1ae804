-- The two stores are those of the definition; the first leaves the length.
use native.Mathlib.Omega.{arith}
use lib.ListN.{length-set}
use Rattle.chains.proofs.enter.Goals as goal

pub bounds-work-bucket-2 : goal.bounds-work-bucket-2
bounds-work-bucket-2 c = simp length-set (omega arith)
