-- The string's entry, the zeros before it, then its bytes, each where the packing has it; the turn tells what is packed with it.
use mathlib.Core.Path.{◌∙◌}
use native.Mathlib.Omega.{arith}
use lib.ListN.{length}
use Rattle.string_packing_write.proofs.PutLaws.{Due, old_few, old_in, new_at, entry-fits, place_low, gap-room, bytes_room}
use Rattle.string_packing_write.proofs.PutLaws.{behind, string-put}
use Rattle.string_packing_write.proofs.put_string.Goals as goal
use Rattle.string_packing_write.proofs.put_string.Goals.{After-take_turn-t}

-- what is known of the string behind its turn
due : (c : After-take_turn-t) → let a = c.args in
    Due a.mode a.p a.image.now a.value.now a.id a.new a.c a.to (length a.out.now)
due c = let q = c.requires in record { turn = q.in_turn.0; shaped = q.in_turn.1; fits = q.string_fits }

pub size_of-size-requires : goal.size_of-size-requires
size_of-size-requires c = old_few _ _ _ _ _ _ (due (goal.at.size_of-size-requires c).After-take_turn-t).turn _ c.take_turn-t.ensures

pub put_entry-requires : goal.put_entry-requires
put_entry-requires c = entry-fits _ _ _ _ _ _ _ _ _ (due (goal.at.put_entry-requires c).After-take_turn-t) _ c.take_turn-t.ensures

pub overflow_add-to : goal.overflow_add-to
overflow_add-to c =
    omega (arith, gap-room _ _ _ _ _ _ _ _ _ (due (goal.at.overflow_add-to c).After-take_turn-t) _ c.take_turn-t.ensures)

pub overflow_sub-place : goal.overflow_sub-place
overflow_sub-place c =
    omega (arith, new_at _ _ _ _ _ _ _ _ _ (due (goal.at.overflow_sub-place c).After-take_turn-t) _ c.take_turn-t.ensures)

pub put_zeros-requires : goal.put_zeros-requires
put_zeros-requires c =
    rw c.put_entry.auto.out (gap-room _ _ _ _ _ _ _ _ _ (due (goal.at.put_zeros-requires c).After-take_turn-t) _ c.take_turn-t.ensures)

pub overflow_add-to-2 : goal.overflow_add-to-2
overflow_add-to-2 c =
    omega (arith, place_low _ _ _ _ _ _ _ _ _ (due (goal.at.overflow_add-to-2 c).After-take_turn-t) _ c.take_turn-t.ensures)

pub put_stored-requires : goal.put_stored-requires
put_stored-requires c =
    let d = due (goal.at.put_stored-requires c).After-take_turn-t in
    let t = c.take_turn-t.ensures in
    record {
      n_in_bounds = rw c.size_of-size.ensures.0 (old_in _ _ _ _ _ _ d.turn _ t);
      n_in_bounds_2 = rw (c.size_of-size.ensures.0, c.put_zeros.auto.s, c.put_entry.auto.out)
          (bytes_room _ _ _ _ _ _ _ _ _ d _ t);
    }

pub shape_of-out : goal.shape_of-out
shape_of-out c = c.put_stored.auto.out ∙ c.put_zeros.auto.s ∙ c.put_entry.auto.out

pub returns : goal.returns
returns c =
    let a = c.args in
    let t = c.take_turn-t.ensures in
    record {
      behind = behind _ _ _ _ _ _ _ _ _ (due (goal.at.returns c).After-take_turn-t) _ t;
      out_after = string-put _ _ _ _ _ _ _ _ _ (due (goal.at.returns c).After-take_turn-t) _ t _ a.out.now _ _ _
          (record {
            size = c.size_of-size.ensures.0;
            entered = c.put_entry.ensures;
            zeros = c.put_zeros.ensures;
            stored = c.put_stored.ensures;
          });
    }
