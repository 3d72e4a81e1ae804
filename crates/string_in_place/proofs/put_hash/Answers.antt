-- No slot where the string is plain; else the slot of its rank, which the buffer holds.
use native.Mathlib.Omega.{arith}
use Rattle.string_in_place.proofs.put_hash.Goals as goal

pub entry_at-slot-requires : goal.entry_at-slot-requires
entry_at-slot-requires c =
    let h = c.requires in
    let b = h.slot _ c.in-Some.is in
    record {
      at_bound = (omega (arith, b, h.limit), omega (arith, b, h.limit));
      k_lt_row_count = (omega arith, omega arith);
    }

pub put_word-requires : goal.put_word-requires
put_word-requires c =
    let h = c.requires in
    omega (arith, c.entry_at-slot.ensures, h.slot _ c.in-Some.is)

pub returns : goal.returns
returns c = rw (c.in-Some.is, ← c.hash_value.ensures, ← c.entry_at-slot.ensures) c.put_word.ensures
