use mathlib.Core.Path.{◌≡◌}
use Rattle.bits.specs.Words.{whole}
use Rattle.format.specs.declared.Layout.TheVariants.{Modern}
use Rattle.format.specs.Record.{put_pointer}
use Rattle.format.proofs.RecordLaws.{pointer_back}
use Rattle.records.proofs.with_modern_pointer.Goals as goal
use Rattle.records.proofs.with_modern_pointer.Goals.{After-with_value}

put : (c : After-with_value) → let a = c.args in
    whole c.with_value.result ≡ put_pointer Modern a.p (whole a.w)
unfolding put_pointer
put c = rw (c.with_value.ensures, c.with_value-low.ensures, c.width-half.ensures)

pub returns : goal.returns
returns c = (
  put (goal.at.returns c).After-with_value,
  rw (put (goal.at.returns c).After-with_value)
      (pointer_back Modern c.args.p (whole c.args.w) c.requires),
)
