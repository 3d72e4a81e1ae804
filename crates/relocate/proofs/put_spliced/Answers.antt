use Rattle.relocate.proofs.EditLaws.{spliced_is}
use Rattle.relocate.proofs.put_spliced.Goals as goal

pub returns : goal.returns
returns c =
    let a = c.args in
    spliced_is a.a a.b a.new.now a.image.now a.out.now
    (record { order = c.requires.0; most = c.requires.1; fits = c.requires.2 }) _ _
    c.copy_around.ensures c.put_bytes.ensures
