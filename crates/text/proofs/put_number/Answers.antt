-- The digits, and one byte behind them.
use native.Mathlib.Omega.{arith}
use Rattle.text.specs.Text.{decimal}
use Rattle.text.proofs.TextLaws.{decimal_20, wrote_byte}
use Rattle.text.proofs.put_number.Goals as goal

pub put_decimal-end-requires : goal.put_decimal-end-requires
put_decimal-end-requires c = omega (arith, c.requires, decimal_20 c.args.x c.ranges.x.fits)

pub bounds-out-end : goal.bounds-out-end
bounds-out-end c =
    let p = c.put_decimal-end in
    omega (arith, c.requires, decimal_20 c.args.x c.ranges.x.fits, p.ensures.0, p.auto.out)

pub overflow_add-result : goal.overflow_add-result
overflow_add-result c =
    let p = c.put_decimal-end in
    omega (arith, c.requires, decimal_20 c.args.x c.ranges.x.fits, p.ensures.0)

pub returns : goal.returns
returns c =
    let p = c.put_decimal-end in (
      wrote_byte c.args.out.now p.new.out (decimal c.args.x) c.args.at p.result c.args.behind
          p.ensures,
      omega (arith, decimal_20 c.args.x c.ranges.x.fits, p.ensures.0),
    )
