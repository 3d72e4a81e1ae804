use Rattle.string_in_place.proofs.FinishLaws.{finish_is}
use Rattle.string_in_place.proofs.finish.Goals as goal

pub returns : goal.returns
returns c =
    let a = c.args in
    finish_is a.p.layout a.image.now _ a.p a.out.now c.requires.1 _ _ _ c.put_hashes.ensures
    c.finalize_raw_image.ensures
