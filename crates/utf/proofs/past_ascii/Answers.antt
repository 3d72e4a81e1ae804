use Rattle.utf.proofs.PieceLaws.{skip_next}
use Rattle.utf.proofs.past_ascii.Goals as goal

pub loop-i-preserved : goal.loop-i-preserved
loop-i-preserved c =
    let l = c.loop-i in
    let a = c.args in
    skip_next a.value.now a.from l.i l.invariant c.loop-i-test.true c.if-value-i-ge128.false
