-- Bit fields of a number.
use Rattle.std.specs.Prelude.{ℕ, ◌+◌, ◌*◌, ◌/◌, ◌%◌, ◌^◌}

-- the field of `width` bits that starts at bit `at`
unfoldable pub field_of : ℕ → ℕ → ℕ → ℕ
field_of n at width = n / 2 ^ at % 2 ^ width

-- the number with that field replaced by the low bits of v: what lies above, the new bits, what lies below
unfoldable pub with_field : ℕ → ℕ → ℕ → ℕ → ℕ
with_field n at width v = n / 2 ^ (width + at) * 2 ^ (width + at) + (v % 2 ^ width * 2 ^ at + n % 2 ^ at)
