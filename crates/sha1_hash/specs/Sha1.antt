-- SHA-1 of a list of bytes, FIPS 180-4.
-- docs/FORMAT.md: SHA-1.
use Rattle.std.specs.Prelude.{List, [], ◌∷◌, ◌++◌, ℕ, zero, suc, ◌+◌, ◌-◌, ◌*◌, ◌/◌, ◌%◌, length, get_or, take, drop, replicate}
use Rattle.bits.specs.Word32.{add32, xor32, rotl32}
use Rattle.sha1_hash.specs.BigEndian.{big_at, big_bytes}
use Rattle.sha1_hash.specs.Functions.{f_of, k_of}

-- ---- 5.1.1: padding

-- the zero bytes after the byte 0x80, for a message of n bytes: as many as make n + 1 + zeros a number that is 56 modulo 64
unfoldable pub zeros : ℕ → ℕ
zeros n = (119 - n % 64) % 64

-- what is appended to a message of n bytes: the bit 1, zero bits, the length in bits as a number of 64 bits. The standard
-- knows no message of 2^64 bits or more; here the length is then taken modulo 2^64
unfoldable pub padding : ℕ → List ℕ
padding n = 0x80 ∷ (replicate (zeros n) 0 ++ big_bytes 8 (n * 8))

-- the padded message
unfoldable pub padded : List ℕ → List ℕ
padded m = m ++ padding (length m)

-- ---- 5.2.1: parsing

-- the block M^(i+1) of a padded message: 64 bytes
unfoldable pub block_at : List ℕ → ℕ → List ℕ
block_at m i = take 64 (drop (i * 64) m)

-- the first n words of a block, M_0 to M_(n-1)
unfoldable pub words : ℕ → List ℕ → List ℕ
words zero block = []
words (suc n) block = words n block ++ big_at block (n * 4) 4 ∷ []

-- ---- 5.3.1: the initial hash value, H^(0)

unfoldable pub initial : List ℕ
initial = 0x67452301 ∷ 0xefcdab89 ∷ 0x98badcfe ∷ 0x10325476 ∷ 0xc3d2e1f0 ∷ []

-- ---- 6.1.2: the hash computation

-- step 1: W_t, from the words before it
unfoldable pub next_word : List ℕ → ℕ → ℕ
next_word w t = rotl32 1 (xor32 (xor32 (xor32 (get_or w (t - 3) 0) (get_or w (t - 8) 0)) (get_or w (t - 14) 0)) (get_or w (t - 16) 0))

-- step 1: the words W_0 to W_15, and n more
unfoldable pub extended : ℕ → List ℕ → List ℕ
extended zero w = w
extended (suc n) w = extended n w ++ next_word (extended n w) (16 + n) ∷ []

-- step 1: the schedule of a block, W_0 to W_79
unfoldable pub schedule : List ℕ → List ℕ
schedule block = extended 64 (words 16 block)

-- step 3: the variables a, b, c, d, e after one round with the function's value f, the constant k and the word w
unfoldable pub turned : List ℕ → ℕ → ℕ → ℕ → List ℕ
turned v f k w =
    add32 (add32 (add32 (add32 (rotl32 5 (get_or v 0 0)) f) (get_or v 4 0)) k) w
    ∷ get_or v 0 0 ∷ rotl32 30 (get_or v 1 0) ∷ get_or v 2 0 ∷ get_or v 3 0 ∷ []

-- step 3: round t
unfoldable pub round_of : ℕ → List ℕ → List ℕ → List ℕ
round_of t v w = turned v (f_of t (get_or v 1 0) (get_or v 2 0) (get_or v 3 0)) (k_of t) (get_or w t 0)

-- step 3: the n rounds from round t on
unfoldable pub rounds : ℕ → ℕ → List ℕ → List ℕ → List ℕ
rounds t zero v w = v
rounds t (suc n) v w = round_of (t + n) (rounds t n v w) w

-- step 4: the sums of the hash value's words and the variables
unfoldable pub summed : List ℕ → List ℕ → List ℕ
summed h v =
    add32 (get_or v 0 0) (get_or h 0 0) ∷ add32 (get_or v 1 0) (get_or h 1 0) ∷ add32 (get_or v 2 0) (get_or h 2 0)
    ∷ add32 (get_or v 3 0) (get_or h 3 0) ∷ add32 (get_or v 4 0) (get_or h 4 0) ∷ []

-- steps 1 to 4: the hash value after a block
unfoldable pub hashed : List ℕ → List ℕ → List ℕ
hashed h block = summed h (rounds 0 80 h (schedule block))

-- the hash value after the first n blocks of a padded message, H^(n) where h is H^(0)
unfoldable pub hashes : ℕ → List ℕ → List ℕ → List ℕ
hashes zero h m = h
hashes (suc n) h m = hashed (hashes n h m) (block_at m n)

-- the bytes of a hash value, H_0 to H_4
unfoldable pub digest_bytes : List ℕ → List ℕ
digest_bytes h =
    big_bytes 4 (get_or h 0 0) ++ (big_bytes 4 (get_or h 1 0)
    ++ (big_bytes 4 (get_or h 2 0) ++ (big_bytes 4 (get_or h 3 0) ++ big_bytes 4 (get_or h 4 0))))

-- the message digest
unfoldable pub digest : List ℕ → List ℕ
digest m = digest_bytes (hashes (length (padded m) / 64) initial (padded m))
