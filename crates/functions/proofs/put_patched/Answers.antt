use Rattle.functions.proofs.WriteLaws.{finalized}
use Rattle.functions.proofs.put_patched.Goals as goal

pub returns : goal.returns
returns c =
    let a = c.args in
    finalized a.layout a.image.now a.id a.body.now a.out.now c.requires _ _ _ c.put_body.ensures
    c.finalize_raw_image.ensures
