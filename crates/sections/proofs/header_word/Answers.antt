use native.Mathlib.Nat.{zero-add}
use native.Mathlib.Omega.{arith}
use Rattle.sections.proofs.header_word.Goals as goal

pub word-requires : goal.word-requires
word-requires c =
    record {
      k_lt_row_count = c.requires.k_lt_row_count;
      k_in_bounds = rw zero-add c.requires.k_in_bounds;
    }

pub returns : goal.returns
returns c = (rw zero-add at c.word.ensures.0, omega arith)
