use Rattle.relocate.proofs.EditLaws.{around-is}
use Rattle.relocate.proofs.copy_around.Goals as goal

pub returns : goal.returns
returns c =
    let a = c.args in
    around-is a.a a.b a.to a.image.now a.out.now _ _ c.requires.back c.put_bytes.ensures
    c.put_bytes-2.ensures
