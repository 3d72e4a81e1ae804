use native.Mathlib.Omega.{arith}
use Rattle.bits.proofs.TestLaws.{all_none}
use Rattle.serialize.proofs.BuilderLaws.{ascending, falls, rises, all_ascend}
use Rattle.serialize.proofs.ends_ascend.Goals as goal

pub loop-i-init : goal.loop-i-init
loop-i-init c = all_none (ascending c.args.ends.now)

pub returns-then-start_of : goal.returns-then-start_of
returns-then-start_of c =
    falls c.args.ends.now c.loop-i.i _ _
    (record { from = c.start_of-in-loop-i.ensures.0; to = c.start_of.ensures.0 })
    c.loop-i-test.true c.if-start_of.true

pub loop-i-preserved : goal.loop-i-preserved
loop-i-preserved c =
    rises c.args.ends.now c.loop-i.i _ _
    (record { from = c.start_of-in-loop-i.ensures.0; to = c.start_of.ensures.0 })
    c.if-start_of.false c.loop-i.invariant

pub returns : goal.returns
returns c = all_ascend c.args.ends.now c.loop-i.i (omega arith) c.loop-i.invariant
