use native.Mathlib.Omega.{arith}
use Rattle.bits.proofs.TestLaws.{all_none}
use Rattle.serialize.proofs.BuilderLaws.{small, far, long, fits, all_fit}
use Rattle.serialize.proofs.all_small.Goals as goal

pub loop-i-init : goal.loop-i-init
loop-i-init c = all_none (small c.args.ends.now)

pub returns-then-start-ge-FAR : goal.returns-then-start-ge-FAR
returns-then-start-ge-FAR c =
    far c.args.ends.now c.loop-i.i _ c.start_of-start.ensures.0 c.loop-i-test.true
    c.if-start-ge-FAR.true

pub returns-then-start-start_of : goal.returns-then-start-start_of
returns-then-start-start_of c =
    long c.args.ends.now c.loop-i.i _ _
    (record {
      span = record { from = c.start_of-start.ensures.0; to = c.start_of.ensures.0 };
      near = c.if-start-ge-FAR.false;
    })
    c.loop-i-test.true c.if-start-start_of.true

pub loop-i-preserved : goal.loop-i-preserved
loop-i-preserved c =
    fits c.args.ends.now c.loop-i.i _ _
    (record {
      span = record { from = c.start_of-start.ensures.0; to = c.start_of.ensures.0 };
      near = c.if-start-ge-FAR.false;
    })
    c.if-start-start_of.false c.loop-i.invariant

pub returns : goal.returns
returns c = all_fit c.args.ends.now c.loop-i.i (omega arith) c.loop-i.invariant
