-- The bytes from `from` up to i are ASCII, so that none of them counts.
use Rattle.utf.specs.Utf8.{Skipped}
use Rattle.utf.proofs.past_ascii.Given as goal

abbrev pub invariant-loop-i : goal.invariant-loop-i
invariant-loop-i l = Skipped l.value l.from l.i
