use mathlib.Core.Path.{refl, ap, ◌∙◌}
use mathlib.Core.Bool.{not}
use native.Mathlib.Nat.{sub-zero}
use native.Mathlib.Omega.{arith}
use Rattle.listing_pieces.proofs.PointLaws.{batch-falls}
use Rattle.listing_pieces.proofs.PartLaws.{copying_first, copying_next, copying_full, copying_last}
use Rattle.listing_pieces.proofs.put_lines.Goals as goal

pub loop-p-init : goal.loop-p-init
loop-p-init c = (copying_first _ _ _ _ _, refl)

pub is_end-requires : goal.is_end-requires
is_end-requires c = tt

pub shape_of-room-then-limit-at : goal.shape_of-room-then-limit-at
shape_of-room-then-limit-at c = c.loop-p.invariant.1

pub shape_of-out-then-limit-at : goal.shape_of-out-then-limit-at
shape_of-out-then-limit-at c = c.loop-p.invariant.0.same

pub returns-then-limit-at : goal.returns-then-limit-at
returns-then-limit-at c =
    let l = c.loop-p in
    copying_full c.args.p c.args.image.now _ _ _ l.out l.point l.skip l.at l.invariant.0 c.if-limit-at.true

pub put_pieces-piece-requires : goal.put_pieces-piece-requires
put_pieces-piece-requires c =
    record {
      ready = c.requires.ready;
      good = c.loop-p.invariant.0.good;
      in_bounds = omega (arith, c.requires.in_bounds, c.loop-p.invariant.1);
    }

pub slice_bounds-put_rest-end : goal.slice_bounds-put_rest-end
slice_bounds-put_rest-end c = omega (arith, c.put_pieces-piece.ensures.most, c.put_pieces-piece.auto.out)

pub put_rest-at-requires : goal.put_rest-at-requires
put_rest-at-requires c = (c.loop-p.invariant.0.room, omega (arith, c.requires.limit_in_bounds, c.loop-p.invariant.0.same))

pub less-skip-requires : goal.less-skip-requires
less-skip-requires c = tt

pub loop-p-smaller : goal.loop-p-smaller
loop-p-smaller c =
    let w = c.put_pieces-piece in
    batch-falls _ _ _ _ c.loop-p.point w.result w.ensures _ c.is_end.ensures (ap not c.loop-p-test.true)

pub loop-p-preserved : goal.loop-p-preserved
loop-p-preserved c =
    let l = c.loop-p in
    let w = c.put_pieces-piece in
    let v = c.put_rest-at in (
      rw c.less-skip.ensures (copying_next c.args.p c.args.image.now _ _ _ l.out l.point l.skip l.at l.invariant.0
          l.room w.new.out v.new.out w.result v.result
          (record { made = w.ensures; same = v.auto.out; wrote = rw sub-zero at v.ensures })),
      w.auto.out ∙ l.invariant.1,
    )

pub shape_of-room : goal.shape_of-room
shape_of-room c = c.loop-p.invariant.1

pub shape_of-out : goal.shape_of-out
shape_of-out c = c.loop-p.invariant.0.same

pub returns : goal.returns
returns c =
    let l = c.loop-p in
    copying_last c.args.p c.args.image.now _ _ _ l.out l.point l.skip l.at l.invariant.0 _
    c.is_end.ensures (ap not c.loop-p-test.false)
