use Rattle.records.specs.Records.{packed}
use Rattle.records.proofs.pack.Goals as goal

pub returns : goal.returns
unfolding packed
returns c =
    rw (
      c.with_value.ensures,
      c.with_value-b.ensures,
      c.with_value-a.ensures,
      c.pack_middle.ensures,
    )
