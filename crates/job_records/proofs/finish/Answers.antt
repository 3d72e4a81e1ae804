-- By what the job has come to: the image that is held, or the line of the refusal.
use Rattle.std.proofs.Common.{arith}
use Rattle.job_records.proofs.CloseLaws.{close_as, close_refused}
use Rattle.job_records.proofs.finish.Goals as goal

pub returns-in-Under : goal.returns-in-Under
returns-in-Under c =
    let a = c.args in
    close_as a.progress a.image.now _ _ _ _ _ c.in-Under.is c.close_image.ensures

pub returns-in-Refused : goal.returns-in-Refused
returns-in-Refused c =
    let a = c.args in
    close_refused a.progress a.image.now _ _ _ _ c.in-Refused.is
    c.put_refused.ensures.0 (omega (arith, c.put_refused.ensures.1, c.requires))
