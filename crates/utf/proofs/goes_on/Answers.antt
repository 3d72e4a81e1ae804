-- Below the range, above it, or in it: the code point so far stays below 2^21.
use native.Mathlib.Omega.{arith}
use Rattle.utf.proofs.ReadingLaws.{point_low, goes_on_lem}
use Rattle.utf.proofs.goes_on.Goals as goal

pub overflow_mul-r : goal.overflow_mul-r
overflow_mul-r c = omega (arith, point_low c.args.r c.requires.small c.requires.need_nonzero)

pub overflow_add-r : goal.overflow_add-r
overflow_add-r c = omega (arith, point_low c.args.r c.requires.small c.requires.need_nonzero)

pub returns : goal.returns
returns c =
    rw c.further.ensures
    (goes_on_lem c.args.r c.args.b c.requires.small c.requires.need_nonzero
    (record { least = omega arith; most = omega arith }))
