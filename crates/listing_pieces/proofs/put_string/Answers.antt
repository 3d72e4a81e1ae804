-- The line of the string whose turn it is, before its units.
use Rattle.listing_pieces.proofs.PointLaws.{no_string_lem, gives_string}
use Rattle.listing_pieces.proofs.put_string.Goals as goal

pub returns-then-p-id : goal.returns-then-p-id
returns-then-p-id c =
    λ s ready good.
    let a = c.args in
    no_string_lem a.p s ready.laid.placed a.out.now a.out.now a.at a.at a.turn c.if-p-id.true

pub returns : goal.returns
returns c =
    λ s ready good.
    let a = c.args in
    let w = c.put_string-end in
    gives_string a.p s ready.laid.placed a.out.now w.new.out a.at w.result a.turn c.string_in-string.result
    (record {
      known = c.if-p-id.false;
      counted = good;
      tells = c.string_in-string.ensures.by_index s ready.laid ready.index;
      wrote = w.ensures.0;
      most = w.ensures.1;
    })
