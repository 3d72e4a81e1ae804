-- 15 where the image is cut short, then the image's own number.
use Rattle.std.specs.Prelude.{Err}
use Rattle.std.proofs.Common.{arith, ap, sym, ◌∙◌}
use Rattle.job_records.proofs.RecordLaws.{cut_image, image_refused, image_laid}
use Rattle.job_records.proofs.begin_image.Goals as goal

pub returns-then-image-stated : goal.returns-then-image-stated
returns-then-image-stated c =
    rw c.number.ensures
    (cut_image c.args.layout c.args.stated c.args.image.now c.if-image-stated.true)

pub returns-in-Err : goal.returns-in-Err
returns-in-Err c =
    let a = c.args in
    image_refused a.layout a.stated a.image.now _
    (record { whole = omega (arith, c.if-image-stated.false); judged = c.admit.ensures }) _
    (c.in-Err.is ∙ ap Err (sym c.number-in-Err.ensures))

pub returns : goal.returns
returns c =
    let a = c.args in
    image_laid a.layout a.stated a.image.now _
    (record { whole = omega (arith, c.if-image-stated.false); judged = c.admit.ensures }) _
    c.in_default.is
