-- The frame keeps its length.
use Rattle.std.proofs.Common.{◌≡◌, length}
use Rattle.test_frames.proofs.put_results.Given as goal

abbrev pub invariant-loop-i : goal.invariant-loop-i
invariant-loop-i l = length l.frame ≡ length l.initial.frame
