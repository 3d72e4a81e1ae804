-- Bytes of a list and the numbers that they stand for. 01, Image rules: "All words are little-endian."
-- docs/FORMAT.md: Words and layouts.
use Rattle.std.specs.Prelude.{ℕ, zero, suc, ◌+◌, ◌-◌, ◌*◌, ◌/◌, ◌%◌, Bool, List, [], ◌∷◌, ◌++◌, length, replicate, nat_le, slice_index}
use Rattle.bits.specs.Choice.{all_below}

-- the n bytes from a place on; a place past the end reads as 0
unfoldable pub bytes_at : List ℕ → ℕ → ℕ → List ℕ
bytes_at s at zero = []
bytes_at s at (suc n) = slice_index s at ∷ bytes_at s (suc at) n

-- the number of a list of bytes, lowest byte first
unfoldable pub number : List ℕ → ℕ
number [] = 0
number (b ∷ bs) = b + number bs * 256

-- the n lowest bytes of a number, lowest byte first
unfoldable pub bytes_of : ℕ → ℕ → List ℕ
bytes_of zero x = []
bytes_of (suc n) x = x % 256 ∷ bytes_of n (x / 256)

-- the number of the n bytes from a place on
abbrev pub number_at : List ℕ → ℕ → ℕ → ℕ
number_at s at n = number (bytes_at s at n)

-- a word is 4 bytes
abbrev pub word_at : List ℕ → ℕ → ℕ
word_at s at = number_at s at 4

-- words, one behind the other
unfoldable pub words_of : List ℕ → List ℕ
words_of [] = []
words_of (w ∷ ws) = bytes_of 4 w ++ words_of ws

-- 01, Image rules: "rounded up to 4"
abbrev pub up4 : ℕ → ℕ
up4 n = (n + 3) / 4 * 4

-- 01, Strings: "zeros to a multiple of 4", from a place on
abbrev pub zeros_to4 : ℕ → List ℕ
zeros_to4 n = replicate (up4 n - n) 0

-- 01, refusal 8: "ASCII", no byte over 0x7F
unfoldable pub ascii : List ℕ → Bool
ascii s = all_below (length s) (λ i. nat_le (slice_index s i) 0x7F)
