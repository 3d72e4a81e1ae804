-- The functions and constants of SHA-1, FIPS 180-4. What changes between the rounds changes by quarter: t / 20 is
-- 0 for the rounds 0 to 19, 1 for 20 to 39, 2 for 40 to 59 and 3 for 60 to 79.
-- docs/FORMAT.md: SHA-1.
use Rattle.std.specs.Prelude.{[], ◌∷◌, ℕ, ◌/◌, eqb, get_or}
use Rattle.bits.specs.Choice.{pick}
use Rattle.bits.specs.Word32.{xor32, and32, not32}

-- 4.1.1: Ch(x, y, z)
unfoldable pub ch : ℕ → ℕ → ℕ → ℕ
ch x y z = xor32 (and32 x y) (and32 (not32 x) z)

-- 4.1.1: Parity(x, y, z)
unfoldable pub parity : ℕ → ℕ → ℕ → ℕ
parity x y z = xor32 (xor32 x y) z

-- 4.1.1: Maj(x, y, z)
unfoldable pub maj : ℕ → ℕ → ℕ → ℕ
maj x y z = xor32 (xor32 (and32 x y) (and32 x z)) (and32 y z)

-- 4.1.1: the function of a quarter: Ch, Parity, Maj, Parity
unfoldable pub f_in : ℕ → ℕ → ℕ → ℕ → ℕ
f_in quarter x y z = pick (eqb quarter 0) (ch x y z) (pick (eqb quarter 2) (maj x y z) (parity x y z))

-- 4.2.1: the constant of a quarter
unfoldable pub k_in : ℕ → ℕ
k_in quarter = get_or (0x5a827999 ∷ 0x6ed9eba1 ∷ 0x8f1bbcdc ∷ 0xca62c1d6 ∷ []) quarter 0

-- 4.1.1: f_t
unfoldable pub f_of : ℕ → ℕ → ℕ → ℕ → ℕ
f_of t x y z = f_in (t / 20) x y z

-- 4.2.1: K_t
unfoldable pub k_of : ℕ → ℕ
k_of t = k_in (t / 20)
