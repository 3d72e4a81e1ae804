use borrow.Author.Tests.{ne_eqb}
use mir.Facts.{to_z-of_z}
use Rattle.records.specs.Records.{info_sum}
use Rattle.records.proofs.info_sum.Goals as goal

pub returns-then-value-eq0 : goal.returns-then-value-eq0
unfolding info_sum
returns-then-value-eq0 c = rw (← c.value.ensures.0, c.if-value-eq0.true)

pub returns : goal.returns
unfolding info_sum
returns c =
    rw (← c.value.ensures.0, ne_eqb _ _ c.if-value-eq0.false)
    (rw (c.field_sum.ensures, to_z-of_z c.ranges.delta, c.value.ensures.0))
