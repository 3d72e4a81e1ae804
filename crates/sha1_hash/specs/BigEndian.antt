-- Words and bytes as FIPS 180-4 has them, section 3.1: the highest byte of a word comes first.
use Rattle.std.specs.Prelude.{List, [], ◌∷◌, ℕ, zero, suc, ◌+◌, ◌*◌, ◌/◌, ◌%◌, ◌^◌, get_or}

-- the number of the n bytes from a place on, highest byte first
unfoldable pub big_at : List ℕ → ℕ → ℕ → ℕ
big_at s at zero = 0
big_at s at (suc n) = big_at s at n * 256 + get_or s (at + n) 0

-- the n lowest bytes of a number, highest byte first
unfoldable pub big_bytes : ℕ → ℕ → List ℕ
big_bytes zero x = []
big_bytes (suc n) x = x / 256 ^ n % 256 ∷ big_bytes n x
