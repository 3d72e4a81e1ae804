use Rattle.listing_pieces.proofs.PointLaws.{gives_counts}
use Rattle.listing_pieces.proofs.put_counts.Goals as goal

pub returns : goal.returns
returns c =
    let a = c.args in
    let w = c.put_counts-end in
    gives_counts a.p a.image.now c.requires.placed a.out.now w.new.out a.at w.result w.ensures.0 w.ensures.1
