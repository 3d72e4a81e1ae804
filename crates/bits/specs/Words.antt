-- A number of up to 128 bits in two words. 01, Forms to change: "`u128` becomes two 64-bit words by shifts and masks."
-- docs/FORMAT.md: Function records.
use Rattle.std.specs.Prelude.{ℕ, ◌+◌, ◌*◌, ◌^◌, ◌<◌, ◌≤◌}
use Rattle.bits.specs.declared.Words.{Words}

-- the number that two words hold
abbrev pub whole : Words → ℕ
whole w = w.high * 2 ^ 64 + w.low

-- a field that lies in one of the two words
pub record InOneWord (at width : ℕ) : Type 0 where
  pub narrow : width < 64
  pub within : width + at ≤ 128
  pub starts : at < 128
  pub low : at < 64 → width + at ≤ 64
