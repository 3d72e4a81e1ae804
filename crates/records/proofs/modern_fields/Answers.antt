use Rattle.records.specs.Records.{modern_fields}
use Rattle.records.proofs.modern_fields.Goals as goal

pub returns : goal.returns
unfolding modern_fields
returns c = rw (c.value.ensures.0, c.value-2.ensures.0, c.value-3.ensures.0)
