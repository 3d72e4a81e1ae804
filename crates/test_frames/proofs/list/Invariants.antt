-- The words keep their number.
use Rattle.std.proofs.Common.{◌≡◌, length}
use Rattle.test_frames.proofs.list.Given as goal

abbrev pub invariant-loop-i : goal.invariant-loop-i
invariant-loop-i l = 1024 ≡ length l.words
