-- Flag and pointer are put into nothing; each field lies in one word.
use Rattle.serialize.specs.Parts.{record_of}
use Rattle.serialize.proofs.pointing_record.Goals as goal

pub returns : goal.returns
unfolding record_of
returns c =
    rw (
      c.with_modern_pointer.ensures.0,
      c.with_value-flagged.ensures,
      c.with_field-flags.ensures,
      c.width.ensures,
      c.at-at.ensures,
    )
