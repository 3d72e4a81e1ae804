-- With no patch the image is finalized; else it stays as the last patch left it.
use Rattle.job_records.proofs.CloseLaws.{close_kept, close_sealed}
use Rattle.job_records.proofs.close_image.Goals as goal

pub returns-then-place-eq1 : goal.returns-then-place-eq1
returns-then-place-eq1 c =
    let a = c.args in
    close_sealed a.length a.place _ a.image.now
    (record { part = c.least-held.ensures.0; most = c.least-held.ensures.1 }) _ _
    c.if-place-eq1.true c.finalize_raw_image.ensures

pub returns-else-place-eq1 : goal.returns-else-place-eq1
returns-else-place-eq1 c =
    let a = c.args in
    close_kept a.length a.place _ a.image.now
    (record { part = c.least-held.ensures.0; most = c.least-held.ensures.1 }) c.if-place-eq1.false
