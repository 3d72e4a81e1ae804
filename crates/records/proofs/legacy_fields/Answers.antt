-- Each field is below the bound of its type.
use Rattle.records.specs.Records.{legacy_fields}
use Rattle.records.proofs.legacy_fields.Goals as goal

pub returns : goal.returns
unfolding legacy_fields
returns c =
    rw (
      c.value.ensures.0,
      c.value-2.ensures.0,
      c.value-3.ensures.0,
      c.value-4.ensures.0,
      c.value-5.ensures.0,
      c.value-6.ensures.0,
      c.value-7.ensures.0,
      c.value-8.ensures.0,
      c.value-9.ensures.0,
      c.value-10.ensures.0,
    )
