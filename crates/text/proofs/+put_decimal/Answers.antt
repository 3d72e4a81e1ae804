-- The digits are written from the last to the first; what is left of the number has as many digits as there is room before them.
use native.Mathlib.Omega.{arith}
use Rattle.text.proofs.TextLaws.{one_length, more_length, put_one, put_more}
use Rattle.text.proofs.+put_decimal.Goals as goal

pub bounds-out-at : goal.bounds-out-at
bounds-out-at t c = omega (arith, c.requires, one_length c.args.x c.if-x-lt10.true)

pub returns-then-x-lt10 : goal.returns-then-x-lt10
returns-then-x-lt10 t c = put_one c.args.x c.args.at _ c.args.out.now c.if-x-lt10.true c.digit.ensures

pub put_decimal-last-requires : goal.put_decimal-last-requires
put_decimal-last-requires t c =
    (omega (arith, c.decreases, c.if-x-lt10.false), omega (arith, c.requires, more_length c.args.x c.if-x-lt10.false))

pub bounds-out-last : goal.bounds-out-last
bounds-out-last t c =
    let p = c.put_decimal-last in
    omega (arith, p.auto.out, p.ensures.0, c.requires, more_length c.args.x c.if-x-lt10.false)

pub overflow_add-result-2 : goal.overflow_add-result-2
overflow_add-result-2 t c =
    let p = c.put_decimal-last in
    omega (arith, p.ensures.0, c.requires, more_length c.args.x c.if-x-lt10.false)

pub returns : goal.returns
returns t c =
    let p = c.put_decimal-last in
    put_more c.args.x c.args.at p.result _ c.args.out.now p.new.out c.if-x-lt10.false p.ensures c.digit-2.ensures
