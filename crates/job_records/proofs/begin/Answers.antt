use Rattle.std.specs.Prelude.{Err}
use Rattle.std.proofs.Common.{ap, sym, ◌∙◌}
use Rattle.job_records.proofs.RecordLaws.{begun-is}
use Rattle.job_records.proofs.begin.Goals as goal

pub returns-in-Ok : goal.returns-in-Ok
returns-in-Ok c = c.begin_image.ensures ∙ begun-is _ _ _ _ c.image_head.ensures c.in-Ok.is

pub returns-in-Err : goal.returns-in-Err
returns-in-Err c = begun-is _ _ _ _ c.image_head.ensures (c.in-Err.is ∙ ap Err (sym c.number.ensures))
