-- Nothing where all functions are listed; else the line of the next.
use native.Mathlib.Omega.{arith}
use Rattle.listing_pieces.proofs.PointLaws.{no_function_lem, gives_function}
use Rattle.listing_pieces.proofs.put_function.Goals as goal

pub returns-then-p-i : goal.returns-then-p-i
returns-then-p-i c =
    no_function_lem c.args.p c.args.image.now c.requires.laid.placed c.args.out.now c.args.out.now
    c.args.at c.args.at c.args.i c.if-p-i.true

pub returns : goal.returns
returns c =
    let w = c.put_function-end in
    gives_function c.args.p c.args.image.now c.requires.laid.placed c.args.out.now w.new.out
    c.args.at w.result c.args.i _
    (record {
      known = omega (arith, c.if-p-i.false);
      is = c.function_of-f.ensures.0;
      wrote = w.ensures.0;
      most = w.ensures.1;
    })
