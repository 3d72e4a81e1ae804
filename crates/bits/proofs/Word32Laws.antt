-- The logic's operators on bits are the digit steps of the definitions, and what two formulas of such steps share.
use Rattle.std.proofs.Common.{◌≡◌, ℕ, zero, suc, ◌+◌, ◌-◌, ◌*◌, ◌/◌, ◌%◌, ◌^◌, ◌<◌, min, refl, add-zero, arith, shr_lt}
use native.Mathlib.Nat.{mul-mod_left}
use lib.Bits.{bit_and, bit_or, bit_xor, differ, and_step, xor_step, or_shifted}
use lib.Pow.{mod-pow-add, shl-shr}
use Rattle.bits.specs.Word32.{xor_n, and_n, not_n, rotl32}

-- ---- one digit

digit_xor : (x y : ℕ) → x < 2 → y < 2 → differ x y ≡ (x + y) % 2
digit_xor zero zero h k = refl
digit_xor zero (suc zero) h k = refl
digit_xor (suc zero) zero h k = refl
digit_xor (suc zero) (suc zero) h k = refl
digit_xor zero (suc (suc y)) h k = absurd (omega arith)
digit_xor (suc zero) (suc (suc y)) h k = absurd (omega arith)
digit_xor (suc (suc x)) y h k = absurd (omega arith)

digit_and : (x y : ℕ) → x < 2 → y < 2 → min x y ≡ x * y
digit_and zero y h k = omega arith
digit_and (suc zero) y h k = omega arith
digit_and (suc (suc x)) y h k = absurd (omega arith)

half : (k a : ℕ) → a < 2 ^ suc k → a / 2 < 2 ^ k
half k a h = omega arith

-- ---- the operators

pub xor_is : (k a b : ℕ) → a < 2 ^ k → b < 2 ^ k → bit_xor a b ≡ xor_n k a b
unfolding xor_n
xor_is zero a b h g = let p : a ≡ 0 = omega arith in let q : b ≡ 0 = omega arith in rw (p, q)
xor_is (suc k) a b h g =
    rw (xor_step a b, xor_is k (a / 2) (b / 2) (half k a h) (half k b g), digit_xor (a % 2) (b % 2) (omega arith) (omega arith))

pub and_is : (k a b : ℕ) → a < 2 ^ k → b < 2 ^ k → bit_and a b ≡ and_n k a b
unfolding and_n
and_is zero a b h g = let p : a ≡ 0 = omega arith in rw p
and_is (suc k) a b h g =
    rw (and_step a b, and_is k (a / 2) (b / 2) (half k a h) (half k b g), digit_and (a % 2) (b % 2) (omega arith) (omega arith))

-- a word of k + j digits, moved up by k: what stays and what comes back share no digit
rotated : (j k x : ℕ) → x < 2 ^ (k + j) → bit_or (x * 2 ^ k % 2 ^ (j + k)) (x / 2 ^ j) ≡ x * 2 ^ k % 2 ^ (j + k) + x / 2 ^ j
rotated j k x h =
    let e : x * 2 ^ k % 2 ^ (j + k) ≡ (x % 2 ^ j) * 2 ^ k
    = rw (mod-pow-add (x * 2 ^ k) j k, shl-shr x k, mul-mod_left x (2 ^ k)) (add-zero _) in
    rw e (or_shifted (x % 2 ^ j) k (x / 2 ^ j) (shr_lt k j h))

pub rotl_is : (n x : ℕ) → n < 32 → x < 2 ^ 32 → bit_or (x * 2 ^ n % 2 ^ 32) (x / 2 ^ (32 - n)) ≡ rotl32 n x
unfolding rotl32
rotl_is n x h g =
    let e : 32 - n + n ≡ 32 = omega arith in
    let f : n + (32 - n) ≡ 32 = omega arith in
    rw e at (rotated (32 - n) n x (rw f g))

-- ---- the halves and the last digits of what the operators give

xor_half : (k a b : ℕ) → xor_n (suc k) a b / 2 ≡ xor_n k (a / 2) (b / 2)
unfolding xor_n
xor_half k a b = omega arith

xor_last : (k a b : ℕ) → xor_n (suc k) a b % 2 ≡ (a % 2 + b % 2) % 2
unfolding xor_n
xor_last k a b = omega arith

-- the product of two digits is a digit
product : (x y : ℕ) → x < 2 → y < 2 → x * y < 2
product zero y h k = omega arith
product (suc zero) y h k = omega arith
product (suc (suc x)) y h k = absurd (omega arith)

and_half : (k a b : ℕ) → and_n (suc k) a b / 2 ≡ and_n k (a / 2) (b / 2)
unfolding and_n
and_half k a b = omega (arith, product (a % 2) (b % 2) (omega arith) (omega arith))

and_last : (k a b : ℕ) → and_n (suc k) a b % 2 ≡ (a % 2) * (b % 2)
unfolding and_n
and_last k a b = omega (arith, product (a % 2) (b % 2) (omega arith) (omega arith))

not_half : (k a : ℕ) → not_n (suc k) a / 2 ≡ not_n k (a / 2)
unfolding not_n
not_half k a = omega arith

not_last : (k a : ℕ) → not_n (suc k) a % 2 ≡ 1 - a % 2
unfolding not_n
not_last k a = omega arith

-- the digits of y where x has 1, those of z where it has 0: with a complement, and with one operator less
digit_choice : (x y z : ℕ) → x < 2 → y < 2 → z < 2 → (z + x * ((y + z) % 2)) % 2 ≡ (x * y + (1 - x) * z) % 2
digit_choice zero y z h k l = omega arith
digit_choice (suc zero) y z h k l = omega arith
digit_choice (suc (suc x)) y z h k l = absurd (omega arith)

pub choice : (k x y z : ℕ) → xor_n k z (and_n k x (xor_n k y z)) ≡ xor_n k (and_n k x y) (and_n k (not_n k x) z)
unfolding xor_n
choice zero x y z = refl
choice (suc k) x y z =
    rw (
      and_half k x (xor_n (suc k) y z),
      and_last k x (xor_n (suc k) y z),
      xor_half k y z,
      xor_last k y z,
      and_half k x y,
      and_last k x y,
      and_half k (not_n (suc k) x) z,
      and_last k (not_n (suc k) x) z,
      not_half k x,
      not_last k x,
      choice k (x / 2) (y / 2) (z / 2),
      digit_choice (x % 2) (y % 2) (z % 2) (omega arith) (omega arith) (omega arith),
    )
