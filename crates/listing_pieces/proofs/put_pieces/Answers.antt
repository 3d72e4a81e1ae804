use native.Mathlib.Omega.{arith}
use Rattle.listing_pieces.proofs.PointLaws.{going_first, going_next, going_last}
use Rattle.listing_pieces.proofs.put_pieces.Goals as goal

pub loop-i-init : goal.loop-i-init
loop-i-init c = let h = c.requires in going_first _ _ _ _ h.in_bounds h.good

pub put_piece-piece-requires : goal.put_piece-piece-requires
put_piece-piece-requires c =
    let g = c.loop-i.invariant in
    record {
      ready = c.requires.ready;
      good = g.good;
      at_in_bounds = omega (arith, g.room, c.loop-i-test.true);
    }

pub loop-i-preserved : goal.loop-i-preserved
loop-i-preserved c =
    let l = c.loop-i in
    let w = c.put_piece-piece in
    going_next c.args.p c.args.image.now _ _ l.out l.point l.at l._i l.invariant
    c.loop-i-test.true w.new.out w.result w.ensures

pub returns : goal.returns
returns c =
    let l = c.loop-i in
    going_last c.args.p c.args.image.now _ _ l.out l.point l.at l._i l.invariant c.loop-i-test.false
