-- The bytes so far, gathered by "or", are below 128 exactly where each of them is.
use Rattle.std.proofs.Common.{◌≡◌, ltb}
use Rattle.bits.proofs.AsciiLaws.{ascii_to}
use Rattle.bits.proofs.ascii.Given as goal

abbrev pub invariant-loop-b : goal.invariant-loop-b
invariant-loop-b l = ltb l.seen 128 ≡ ascii_to l.s l.b-index
