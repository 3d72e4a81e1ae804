-- The sum of a number and a signed 32-bit delta. 02, No. 8: the shifts "must now refuse a sum below 0 or past their width".
-- docs/FORMAT.md: Record leaves.
use Rattle.std.specs.Prelude.{ℕ, ◌^◌, ◌≤◌, ltb, ℤ, pos, negsuc, ◌+ℤ◌, None, Option, Some}
use Rattle.bits.specs.Choice.{pick}

-- a whole number that so many bits can hold, or none; `negsuc n` is -(n + 1)
abbrev pub fitting : ℕ → ℤ → Option ℕ
fitting width (pos n) = pick (ltb n (2 ^ width)) (Some n) None
fitting width (negsuc n) = None

-- delta added to a number, exactly, in so many bits
abbrev pub summed : ℕ → ℤ → ℕ → Option ℕ
summed width delta n = fitting width (pos n +ℤ delta)

-- "their width (25, 32 and 32 bits)": that of a large pointer and of a word; 25 is the width of an offset's and an info place's field
abbrev pub word_bits : ℕ
word_bits = 32

-- the same in propositions: "a sum below 0 or past their width"
pub data SumOutside (width : ℕ) : ℤ → Type 0 where
  below : (n : ℕ) → SumOutside width (negsuc n)
  past : (n : ℕ) → 2 ^ width ≤ n → SumOutside width (pos n)
