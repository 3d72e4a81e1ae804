-- The end of the line where all units are listed; else the next of them, as many as one piece takes.
use native.Mathlib.Omega.{arith}
use Rattle.listing_pieces.proofs.PointLaws.{InLine, slot_known, turn_small, line_small, gives_closing, Chunk, least_units}
use Rattle.listing_pieces.proofs.PointLaws.{units_in_lem, gives_units}
use Rattle.listing_pieces.proofs.put_units.Goals as goal
use Rattle.listing_pieces.proofs.put_units.Goals.{After-least-n, After-string_in-string}

-- what the index tells of the string
line : (c : After-string_in-string) → let a = c.args in
    InLine a.p a.image.now a.turn c.string_in-string.result
line c = let h = c.requires in
    record {
      laid = h.ready.laid;
      known = h.good.0;
      counted = h.good.1;
      tells = c.string_in-string.ensures.by_index _ h.ready.laid h.ready.index;
    }

-- the units that are to be put
units : (c : After-least-n) → let a = c.args in
    Chunk a.p a.image.now a.turn c.string_in-string.result a.unit c.least-n.result
units c = let h = c.requires in
    record {
      line = record {
        laid = h.ready.laid;
        known = h.good.0;
        counted = h.good.1;
        tells = c.string_in-string.ensures.by_index _ h.ready.laid h.ready.index;
      };
      some = c.if-count-unit.false;
      least = c.least-n.ensures.0;
    }

pub slot_of-slot-requires : goal.slot_of-slot-requires
slot_of-slot-requires c =
    let x = line (goal.at.slot_of-slot-requires c).After-string_in-string in
    record {
      placed = x.laid.placed;
      rank_lt_identifiers = slot_known x;
    }

pub next_turn-requires : goal.next_turn-requires
next_turn-requires c = turn_small (line (goal.at.next_turn-requires c).After-string_in-string)

pub returns-then-count-unit : goal.returns-then-count-unit
returns-then-count-unit c =
    let a = c.args in
    let w = c.put_closing in
    gives_closing (line (goal.at.returns-then-count-unit c).After-string_in-string) a.unit c.if-count-unit.true c.slot_of-slot.result
    c.slot_of-slot.ensures
    a.out.now w.new.out a.at w.result w.ensures.0 w.ensures.1 _ c.next_turn.ensures

pub overflow_add-start : goal.overflow_add-start
overflow_add-start c =
    let small = line_small (line (goal.at.overflow_add-start c).After-string_in-string) in
    record { fits = omega (arith, small.1, small.2) }

pub put_units-end-requires : goal.put_units-end-requires
put_units-end-requires c =
    let x = units (goal.at.put_units-end-requires c).After-least-n in
    let u = least_units x in
    record {
      n_in_bounds = omega (arith, u.0, c.requires.at_in_bounds);
      wide_in_bounds = units_in_lem x.line c.args.unit c.least-n.result u.1;
    }

pub overflow_add-result : goal.overflow_add-result
overflow_add-result c =
    let x = units (goal.at.overflow_add-result c).After-least-n in
    omega (arith, x.some, (line_small x.line).0)

pub returns : goal.returns
returns c = gives_units (units (goal.at.returns c).After-least-n) _ _ _ _ c.put_units-end.ensures.0 c.put_units-end.ensures.1
