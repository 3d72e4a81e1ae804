-- The places before the index hold the value; the rest of the part is as it was.
use Rattle.std.proofs.Common.{◌≡◌, replicate}
use lib.Seq.{paste}
use Rattle.bits.proofs.put_copies.Given as goal

abbrev pub invariant-loop-place : goal.invariant-loop-place
invariant-loop-place g l = l.place-items ≡ paste l.initial.place-items 0 (replicate l.n l.x) l.place-index
