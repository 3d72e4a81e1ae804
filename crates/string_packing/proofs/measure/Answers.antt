use native.Mathlib.Omega.{arith}
use Rattle.string_packing.proofs.PassLaws.{measured}
use Rattle.string_packing.proofs.measure.Goals as goal

pub loop-c-init : goal.loop-c-init
loop-c-init c =
    let e = c.nothing_packed-c.ensures in
    (omega (arith, e.1), e.0 _ _ _ c.requires.laid.placed _)

pub measure_stretch-c-requires : goal.measure_stretch-c-requires
measure_stretch-c-requires c =
    let q = c.requires in
    record {
      laid = (q.laid, q.listed, c.loop-c-test.true);
      reached = c.loop-c.invariant.1;
    }

pub loop-c-smaller : goal.loop-c-smaller
loop-c-smaller c = omega (arith, c.measure_stretch-c.ensures.id_lt_id)

pub loop-c-preserved : goal.loop-c-preserved
loop-c-preserved c = let e = c.measure_stretch-c.ensures in (e.id_lt_id.1, e.reached_2)

pub returns : goal.returns
returns c = measured _ _ _ _ _ (omega (arith, c.loop-c.invariant.0, c.loop-c-test.false)) c.loop-c.invariant.1
