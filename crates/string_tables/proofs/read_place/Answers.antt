-- An overflowed entry has its place in its pair, any other in its own fields.
use native.Mathlib.Omega.{arith}
use Rattle.string_tables.proofs.StringLaws.{pair_place, own_place}
use Rattle.string_tables.proofs.read_place.Goals as goal

pub returns-then-is_full : goal.returns-then-is_full
returns-then-is_full c =
    record {
      place = pair_place _ _ _ _ _ _ (record { widths = c.is_wide-wide.ensures; fills = c.is_full.ensures })
          c.if-is_full.true _ _ _
          (record {
            place = c.entry_at-pair.ensures;
            offset = c.word-at.ensures.0;
            count = c.word-count.ensures.0;
          });
      over = rw (← c.is_full.ensures, c.if-is_full.true);
      at = omega arith;
      count = omega arith;
    }

pub returns : goal.returns
returns c =
    record {
      place = own_place _ _ _ _ _ _ (record { widths = c.is_wide-wide.ensures; fills = c.is_full.ensures })
          c.if-is_full.false _ _ (record { offset = c.value-at.ensures.0; count = c.value-count.ensures.0 });
      over = rw (← c.is_full.ensures, c.if-is_full.false) (omega arith);
      at = omega arith;
      count = omega arith;
    }
