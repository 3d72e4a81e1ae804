-- The small entry, and behind it the words of the pair, whose place lies in the buffer.
use mathlib.Core.Path.{refl}
use native.Mathlib.Omega.{arith}
use Rattle.string_tables.specs.Strings.{as_place}
use Rattle.string_packing_write.proofs.EntryLaws.{pair_room, put_over, put_small}
use Rattle.string_packing_write.proofs.put_entry.Goals as goal

pub put_word-requires-then-is_over : goal.put_word-requires-then-is_over
put_word-requires-then-is_over c =
    let a = c.args in
    let room =
    pair_room a.to a.k (as_place a.place) _ c.is_over.ensures c.if-is_over.true _ c.requires.pair in
    record {
      k_lt_row_count = (omega arith, refl);
      k_in_bounds = omega (arith, c.entry_at-pair.ensures, c.put_word.auto.s, room);
    }

pub put_word-requires-then-is_over-2 : goal.put_word-requires-then-is_over-2
put_word-requires-then-is_over-2 c =
    let a = c.args in
    let room =
    pair_room a.to a.k (as_place a.place) _ c.is_over.ensures c.if-is_over.true _ c.requires.pair in
    record {
      k_lt_row_count = (omega arith, refl);
      k_in_bounds = omega (arith, c.entry_at-pair.ensures, c.put_word.auto.s, c.put_word-then-is_over.auto.s, room);
    }

pub returns-then-is_over : goal.returns-then-is_over
returns-then-is_over c =
    let a = c.args in
    put_over a.to a.k (as_place a.place) _ c.is_over.ensures a.i _ _ _ a.out.now _ _ _ c.if-is_over.true
    (record {
      word = c.entry.ensures;
      entered = record { place = c.entry_at-small.ensures; put = c.put_word.ensures };
      paired = record {
        place = c.entry_at-pair.ensures;
        offset = c.put_word-then-is_over.ensures;
        count = c.put_word-then-is_over-2.ensures;
      };
    })

pub returns : goal.returns
returns c =
    let a = c.args in
    put_small a.to a.k (as_place a.place) _ c.is_over.ensures a.i _ a.out.now _ c.if-is_over.false
    (record {
      place = c.entry_at-small.ensures;
      put = rw c.entry-2.ensures at c.put_word-2.ensures;
    })
