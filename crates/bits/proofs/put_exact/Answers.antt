use Rattle.bits.proofs.WriteLaws.{number_at_back}
use Rattle.bits.proofs.put_exact.Goals as goal

pub returns : goal.returns
returns c =
    let a = c.args in
    let e = c.put_word.ensures in
    (e, rw e (number_at_back a.s.now a.at 4 a.x c.requires.at_in_bounds c.requires.x_bound))
