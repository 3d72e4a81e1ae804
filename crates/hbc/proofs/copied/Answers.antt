-- 13, or the bytes in a buffer that has room for them.
use Rattle.hbc.proofs.ReadLaws.{copy_short, copy_fits}
use Rattle.hbc.proofs.copied.Goals as goal

pub returns-then-out-size : goal.returns-then-out-size
returns-then-out-size c =
    let a = c.args in
    copy_short a.image.now a.out.now a.start a.size c.if-out-size.true

pub returns : goal.returns
returns c =
    let a = c.args in
    copy_fits a.image.now a.out.now a.start a.size _ c.requires c.if-out-size.false
    c.put_bytes.ensures
