use Rattle.job_records.proofs.RecordLaws.{stated_image_is}
use Rattle.job_records.proofs.stated_image.Goals as goal

pub returns-in-Ok : goal.returns-in-Ok
returns-in-Ok c = stated_image_is _ _ _ c.image_head.ensures c.in-Ok.is

pub returns-in-Err : goal.returns-in-Err
returns-in-Err c = stated_image_is _ _ _ c.image_head.ensures c.in-Err.is
