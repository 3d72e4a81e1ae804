-- The string's old place by the pass, its new one by the packing, and the sums one string further.
use native.Mathlib.Omega.{arith}
use Rattle.string_packing.proofs.PassLaws.{PlaceFound, strings_few, count_small, turned}
use Rattle.string_packing.proofs.take_turn.Goals as goal
use Rattle.string_packing.proofs.take_turn.Goals.{After-new_place-place}

-- what is known of the new place
found : (c : After-new_place-place) → let a = c.args in
    PlaceFound a.mode a.p a.image.now a.id a.new a.c c.string_at-step.result c.new_place-place.result
found c = let e = c.new_place-place.ensures in
    record {
      turn = c.requires;
      visits = c.string_at-step.ensures;
      new = e.result_value;
      near = e.at_le_at.1;
    }

pub new_place-place-requires : goal.new_place-place-requires
new_place-place-requires c =
    let q = c.requires in
    omega (arith, strings_few _ _ _ _ q, q.known, q.going.low)

pub overflow_add-over : goal.overflow_add-over
overflow_add-over c =
    let q = c.requires in
    omega (arith, strings_few _ _ _ _ q, q.known, q.going.few)

pub size_of-requires : goal.size_of-requires
size_of-requires c = omega (arith, count_small _ _ _ _ _ _ _ _ (found (goal.at.size_of-requires c).After-new_place-place))

pub overflow_add-at : goal.overflow_add-at
overflow_add-at c =
    let f = found (goal.at.overflow_add-at c).After-new_place-place in
    let q = f.turn in
    omega (arith, strings_few _ _ _ _ q, q.known, q.going.low, f.near, count_small _ _ _ _ _ _ _ _ f)

pub returns : goal.returns
returns c =
    turned _ _ _ _ _ _ _ _ (found (goal.at.returns c).After-new_place-place) _ _ _
    (record {
      overflows = c.is_over.ensures;
      entries = c.if_set.ensures.0;
      few = c.if_set.ensures.1;
      size = c.size_of.ensures.0;
      low = c.size_of.ensures.2;
    })
