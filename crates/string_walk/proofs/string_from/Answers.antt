-- The walk goes on from what the pass has visited, and the run of kinds is found from the one that it has come to.
use mathlib.Core.Path.{refl}
use native.Mathlib.Omega.{arith}
use Rattle.string_walk.proofs.VisitLaws.{walked_as}
use Rattle.string_walk.proofs.string_from.Goals as goal

pub walk_to-requires : goal.walk_to-requires
walk_to-requires c =
    let h = c.requires in
    record { laid = h.laid; walked = rw c.counts_of.ensures (h.cursor_of.0.walked, h.cursor_of.1, h.cursor_of.2) }

pub run_of-requires : goal.run_of-requires
run_of-requires c =
    let h = c.requires in
    record { laid = h.laid; known = h.cursor_of.2; run = h.cursor_of.0.run; reached = omega (arith, h.cursor_of.0.reached, h.cursor_of.1) }

pub returns : goal.returns
returns c =
    let e = c.walk_to.ensures in
    let r = c.run_of.ensures in
    (record { walked = walked_as _ _ _ e.0 _ e.1; run = r.0; reached = r.1 }, refl)
