-- The buffer keeps its length.
use Rattle.std.proofs.Common.{◌≡◌, length}
use Rattle.test_frames.proofs.put_list.Given as goal

abbrev pub invariant-loop-i : goal.invariant-loop-i
invariant-loop-i l = length l.bytes ≡ length l.initial.bytes
