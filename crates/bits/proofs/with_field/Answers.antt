use Rattle.std.proofs.Common.{arith, shl_exact}
use lib.Bits.{mask_lt}
use lib.Pow.{ones_lt}
use Rattle.bits.proofs.MaskLaws.{bit, put_is}
use Rattle.bits.proofs.with_field.Goals as goal

pub returns : goal.returns
returns c =
    let a = c.args in
    rw (
      bit a.width (omega arith),
      shl_exact a.width a.at 64 (ones_lt a.width) (omega arith),
      shl_exact a.width a.at 64 (mask_lt a.v a.width) (omega arith),
    )
    (put_is a.width a.at a.n a.v (omega arith) (omega arith))
