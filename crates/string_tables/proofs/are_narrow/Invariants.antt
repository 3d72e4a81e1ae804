-- The bytes before the index, gathered by "or", exceed 0x7F exactly where one of them does.
use mathlib.Core.Path.{◌≡◌}
use lib.Dec.{leb}
use Rattle.string_tables.specs.Strings.{all_narrow}
use Rattle.string_tables.proofs.are_narrow.Given as goal

abbrev pub invariant-loop-byte : goal.invariant-loop-byte
invariant-loop-byte l = leb l.seen 0x7F ≡ all_narrow l.fn.image l.at l.byte-index
