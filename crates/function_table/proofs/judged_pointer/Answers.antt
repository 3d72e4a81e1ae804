-- The pointer is compared as a whole number; what lies in the tail fits 32 bits.
use mathlib.Core.Bool.{not}
use mathlib.Core.Path.{ap}
use Rattle.bits.specs.Words.{whole}
use Rattle.function_table.proofs.TailLaws.{PointerTested, pointer_out, pointer_in}
use Rattle.function_table.proofs.judged_pointer.Goals as goal
use Rattle.function_table.proofs.judged_pointer.Goals.{After-is_in_tail}

-- the header that the record points to is tested
tested : (c : After-is_in_tail) → let a = c.args in
    PointerTested a.p a.image.now (whole a.words) c.pointer_of-ptr.result c.large_row.result
    c.is_in_tail.result
tested c = record {
  placed = c.requires;
  to = c.pointer_of-ptr.ensures.0;
  row = c.large_row.ensures;
  test = c.is_in_tail.ensures;
}

pub returns-then-not-is_in_tail : goal.returns-then-not-is_in_tail
returns-then-not-is_in_tail c =
    pointer_out (tested (goal.at.returns-then-not-is_in_tail c).After-is_in_tail) (ap not c.if-not-is_in_tail.true)

pub returns : goal.returns
returns c = pointer_in (tested (goal.at.returns c).After-is_in_tail) (ap not c.if-not-is_in_tail.false)
