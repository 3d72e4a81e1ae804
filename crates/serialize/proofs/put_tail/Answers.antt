use Rattle.serialize.proofs.PartLaws.{tail_laid}
use Rattle.serialize.proofs.put_tail.Goals as goal

pub returns : goal.returns
returns c =
    let a = c.args in
    tail_laid a.image.now _ _ _ a.begin a.body.now c.put_bytes.ensures
    (rw c.up4-at.ensures at c.put_zeros.ensures)
    (rw c.up4-at.ensures at c.put_large_header.ensures)
