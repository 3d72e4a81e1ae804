-- The heads of records: numbers of two bytes.
use mathlib.Core.Path.{◌≡◌}
use mathlib.Core.List.{List}
use Prim.Native.Nat.{ℕ, suc, ◌+◌, ◌*◌}
use native.Mathlib.Omega.{arith}
use lib.ListN.{get_or}
use Rattle.bits.specs.Bytes.{bytes_at, number, number_at}

pub half_sum : (s : List ℕ) (at : ℕ) → get_or s at 0 + get_or s (at + 1) 0 * 256 ≡ number_at s at 2
unfolding number bytes_at
half_sum s at = let a : at + 1 ≡ suc at = omega arith in rw a (omega arith)
