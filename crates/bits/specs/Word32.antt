-- 32-bit words, in definitions that compute: a fixed number of digit steps.
use Rattle.std.specs.Prelude.{ℕ, zero, suc, ◌+◌, ◌-◌, ◌*◌, ◌/◌, ◌%◌, ◌^◌}

-- the sum modulo 2^32
unfoldable pub add32 : ℕ → ℕ → ℕ
add32 a b = (a + b) % 2 ^ 32

-- the exclusive or of k binary digits: a sum of digits without carry
unfoldable pub xor_n : ℕ → ℕ → ℕ → ℕ
xor_n zero a b = 0
xor_n (suc k) a b = xor_n k (a / 2) (b / 2) * 2 + (a % 2 + b % 2) % 2

-- the exclusive or of two words
abbrev pub xor32 : ℕ → ℕ → ℕ
xor32 a b = xor_n 32 a b

-- the and of k binary digits: their products
unfoldable pub and_n : ℕ → ℕ → ℕ → ℕ
and_n zero a b = 0
and_n (suc k) a b = and_n k (a / 2) (b / 2) * 2 + (a % 2) * (b % 2)

-- the and of two words
abbrev pub and32 : ℕ → ℕ → ℕ
and32 a b = and_n 32 a b

-- the complement of k binary digits
unfoldable pub not_n : ℕ → ℕ → ℕ
not_n zero a = 0
not_n (suc k) a = not_n k (a / 2) * 2 + (1 - a % 2)

-- the complement of a word
abbrev pub not32 : ℕ → ℕ
not32 a = not_n 32 a

-- a word rotated to the left by n digits: those that leave above come back below
unfoldable pub rotl32 : ℕ → ℕ → ℕ
rotl32 n x = x * 2 ^ n % 2 ^ 32 + x / 2 ^ (32 - n)
