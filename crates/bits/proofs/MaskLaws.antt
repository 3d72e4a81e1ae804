-- Masks and shifts at 64 bits, over the place and the width: what the code of a bit field computes.
use Rattle.std.proofs.Common.{◌≡◌, ℕ, ◌+◌, ◌-◌, ◌*◌, ◌/◌, ◌%◌, ◌^◌, ◌<◌, ◌≤◌, sym, ap, ◌∙◌, mod-lt, one-mul, zero-add, zero-mul}
use Rattle.std.proofs.Common.{sub-add_cancel, arith, pow_pos, pow_mono, shl_lt, shl_exact}
use lib.Pow.{high_ones, split, shr_mod, mod-mod-pow}
use lib.Bits.{bit_and, bit_or, and_mask, and_block, or_block, or_zero_r, or_shifted, or_shifted_r}
use Rattle.bits.specs.Fields.{with_field}

-- the code's `1 << w`
pub bit : (w : ℕ) → w < 64 → 1 * 2 ^ w % 2 ^ 64 ≡ 2 ^ w
bit w h = shl_exact 1 w 64 (omega arith) (omega arith) ∙ one-mul (2 ^ w)

-- all ones but for the field: high ones, zeros, low ones
hole : (j w at : ℕ) → 2 ^ (j + (w + at)) - 1 - (2 ^ w - 1) * 2 ^ at ≡ (2 ^ j - 1) * 2 ^ (w + at) + (2 ^ at - 1)
hole j w at =
    let p : 2 ^ at ≤ 2 ^ (w + at) = pow_mono (omega arith) in
    let q : 2 ^ (w + at) ≤ 2 ^ (j + (w + at)) = pow_mono (omega arith) in
    rw (← high_ones w at, ← high_ones j (w + at)) (omega (arith, pow_pos at))

-- what clearing a field leaves
cleared : (j w at n : ℕ) → n < 2 ^ (j + (w + at))
    → bit_and n (2 ^ (j + (w + at)) - 1 - (2 ^ w - 1) * 2 ^ at) ≡ n / 2 ^ (w + at) * 2 ^ (w + at) + n % 2 ^ at
cleared j w at n h =
    let p : 2 ^ at ≤ 2 ^ (w + at) = pow_mono (omega arith) in
    ap (λ (m : ℕ). bit_and n m) (hole j w at)
    ∙ ap (λ (m : ℕ). bit_and m ((2 ^ j - 1) * 2 ^ (w + at) + (2 ^ at - 1))) (sym (split n (w + at)))
    ∙ and_block (w + at) (n / 2 ^ (w + at)) (2 ^ j - 1) (n % 2 ^ (w + at)) (2 ^ at - 1) (mod-lt n (pow_pos (w + at)))
    (omega (arith, pow_pos at))
    ∙ ap (λ (m : ℕ). m * 2 ^ (w + at) + bit_and (n % 2 ^ (w + at)) (2 ^ at - 1))
    (and_mask (n / 2 ^ (w + at)) j ∙ shr_mod j (w + at) h)
    ∙ ap (λ (m : ℕ). n / 2 ^ (w + at) * 2 ^ (w + at) + m) (and_mask (n % 2 ^ (w + at)) at ∙ mod-mod-pow n w at)

-- a field put over cleared bits
laid : (w at hi lo v : ℕ) → lo < 2 ^ at → v < 2 ^ w
    → bit_or (hi * 2 ^ (w + at) + lo) (v * 2 ^ at) ≡ hi * 2 ^ (w + at) + (v * 2 ^ at + lo)
laid w at hi lo v h k =
    let p : 2 ^ at ≤ 2 ^ (w + at) = pow_mono (omega arith) in
    ap (λ (m : ℕ). bit_or (hi * 2 ^ (w + at) + lo) m)
    (sym (zero-add (v * 2 ^ at)) ∙ ap (λ (m : ℕ). m + v * 2 ^ at) (sym (zero-mul (2 ^ (w + at)))))
    ∙ or_block (w + at) hi 0 lo (v * 2 ^ at) (omega arith) (shl_lt w at k)
    ∙ ap (λ (m : ℕ). m * 2 ^ (w + at) + bit_or lo (v * 2 ^ at)) (or_zero_r hi)
    ∙ ap (λ (m : ℕ). hi * 2 ^ (w + at) + m) (or_shifted_r v at lo h)

-- clear the field, then or the new bits in
pub put_is : (w at n v : ℕ) → w + at ≤ 64 → n < 2 ^ 64
    → bit_or (bit_and n (2 ^ 64 - 1 - (2 ^ w - 1) * 2 ^ at)) (bit_and v (2 ^ w - 1) * 2 ^ at) ≡ with_field n at w v
unfolding with_field
put_is w at n v h k =
    let e : 64 - (w + at) + (w + at) ≡ 64 = sub-add_cancel h in
    let z : bit_and n (2 ^ 64 - 1 - (2 ^ w - 1) * 2 ^ at) ≡ n / 2 ^ (w + at) * 2 ^ (w + at) + n % 2 ^ at
    = rw e at (cleared (64 - (w + at)) w at n (rw e k)) in
    rw (z, and_mask) (laid w at (n / 2 ^ (w + at)) (n % 2 ^ at) (v % 2 ^ w) (mod-lt n (pow_pos at)) (mod-lt v (pow_pos w)))

-- the code's `(a << k) | b`
pub or_add : (j k a b : ℕ) → a < 2 ^ j → b < 2 ^ k → j + k ≤ 64 → bit_or (a * 2 ^ k % 2 ^ 64) b ≡ a * 2 ^ k + b
or_add j k a b h g l = ap (λ (m : ℕ). bit_or m b) (shl_exact j k 64 h l) ∙ or_shifted a k b g
