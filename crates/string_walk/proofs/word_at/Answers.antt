use native.Mathlib.Omega.{arith}
use Rattle.string_walk.proofs.word_at.Goals as goal

pub entry_at-requires : goal.entry_at-requires
entry_at-requires c =
    let h = c.requires in
    record {
      at_bound = (h.0, h.1);
      k_lt_row_count = (omega arith, omega arith);
    }

pub word-requires : goal.word-requires
word-requires c = omega (arith, c.entry_at.ensures, c.requires.2)

pub returns : goal.returns
returns c = rw (← c.entry_at.ensures) c.word.ensures
