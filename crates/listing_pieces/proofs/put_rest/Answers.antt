-- What is copied is the least of what is left of the text and of the room; both bounds follow from that.
use native.Mathlib.Omega.{arith}
use Rattle.listing_pieces.proofs.PartLaws.{no_rest, cut_length, rest_copied, rest_written}
use Rattle.listing_pieces.proofs.put_rest.Goals as goal

pub returns-then-text-skip : goal.returns-then-text-skip
returns-then-text-skip c =
    no_rest c.args.text.now c.args.out.now c.args.skip c.args.at c.args.limit
    c.if-text-skip.true

pub overflow_add-skip : goal.overflow_add-skip
overflow_add-skip c =
    let f = rest_copied c.args.text.now c.args.skip c.args.at c.args.limit
    c.least-n.result c.if-text-skip.false c.least-n.ensures.0 in
    omega (arith, f.0, c.if-text-skip.false)

pub slice_bounds-put_bytes-end : goal.slice_bounds-put_bytes-end
slice_bounds-put_bytes-end c =
    let f = rest_copied c.args.text.now c.args.skip c.args.at c.args.limit
    c.least-n.result c.if-text-skip.false c.least-n.ensures.0 in
    omega (arith, f.0, c.if-text-skip.false)

pub put_bytes-requires : goal.put_bytes-requires
put_bytes-requires c =
    let f = rest_copied c.args.text.now c.args.skip c.args.at c.args.limit
    c.least-n.result c.if-text-skip.false c.least-n.ensures.0 in
    let n = cut_length c.args.skip c.least-n.result c.args.text.now f.3 in
    omega (arith, f.1, n, c.requires.0, c.requires.1)

pub overflow_add-result : goal.overflow_add-result
overflow_add-result c =
    let f = rest_copied c.args.text.now c.args.skip c.args.at c.args.limit
    c.least-n.result c.if-text-skip.false c.least-n.ensures.0 in
    omega (arith, f.1, c.requires.0, c.requires.1)

pub returns : goal.returns
returns c =
    rest_written c.args.text.now c.args.out.now _ c.args.skip c.args.at c.args.limit
    c.least-n.result c.if-text-skip.false c.least-n.ensures.0 c.put_bytes.ensures
