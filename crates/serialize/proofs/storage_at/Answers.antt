-- No sum wraps: there are no more strings than an image may have bytes.
use Prim.Native.Nat.{◌≤◌}
use native.Mathlib.Nat.{mul-le-mul_left}
use native.Mathlib.Omega.{arith}
use Rattle.serialize.proofs.storage_at.Goals as goal

pub overflow_mul-result : goal.overflow_mul-result
overflow_mul-result c =
    let h : c.width.result ≤ 4 = omega (arith, c.width.ensures) in
    omega (arith, mul-le-mul_left c.args.strings h)

pub overflow_add-result : goal.overflow_add-result
overflow_add-result c =
    let h : c.width.result ≤ 4 = omega (arith, c.width.ensures) in
    omega (arith, mul-le-mul_left c.args.strings h)

pub returns : goal.returns
returns c = rw (c.small_at.ensures, c.width.ensures)
