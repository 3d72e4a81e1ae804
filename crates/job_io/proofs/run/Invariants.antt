-- What is left to read falls with each turn. The buffers keep their lengths.
use Rattle.std.proofs.Common.{◌≡◌, length}
use Rattle.job_io.proofs.run.Given as goal

abbrev pub invariant-loop-short : goal.invariant-loop-short
invariant-loop-short g l =
    (length l.image ≡ 65_536) × (length l.out ≡ 65_536) × (length l.content ≡ 65_535) × (length l.head ≡ 8)

abbrev pub decreases-loop-short : goal.decreases-loop-short
decreases-loop-short g l = l.left
