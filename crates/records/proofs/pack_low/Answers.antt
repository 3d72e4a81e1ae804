use Rattle.records.specs.Records.{packed_low}
use Rattle.records.proofs.pack_low.Goals as goal

pub returns : goal.returns
unfolding packed_low
returns c =
    rw (
      c.with_value.ensures,
      c.with_value-c.ensures,
      c.with_value-b.ensures,
      c.with_value-a.ensures,
    )
