use Rattle.records.specs.Records.{packed_middle}
use Rattle.records.proofs.pack_middle.Goals as goal

pub returns : goal.returns
unfolding packed_middle
returns c =
    rw
    (c.with_value.ensures, c.with_value-b.ensures, c.with_value-a.ensures, c.pack_low.ensures)
