use Rattle.bits.proofs.FieldLaws.{field-front}
use mathlib.Core.Path.{◌≡◌}
use mathlib.Core.Bool.{false}
use Rattle.bits.specs.Words.{whole}
use Rattle.format.specs.declared.Layout.TheVariants.{Legacy}
use Rattle.format.specs.Record.{put_pointer}
use Rattle.format.proofs.RecordLaws.{pointer_back}
use Rattle.records.proofs.with_legacy_pointer.Goals as goal
use Rattle.records.proofs.with_legacy_pointer.Goals.{After-with_value}

put : (c : After-with_value) → let a = c.args in
    whole c.with_value.result ≡ put_pointer (Legacy false false) a.p (whole a.w)
unfolding put_pointer
put c = rw
    (c.with_value.ensures, c.with_value-low.ensures, c.field.ensures.0, c.width-half.ensures, field-front)

pub returns : goal.returns
returns c = (
  put (goal.at.returns c).After-with_value,
  rw (put (goal.at.returns c).After-with_value)
      (pointer_back (Legacy false false) c.args.p (whole c.args.w) c.requires),
)
