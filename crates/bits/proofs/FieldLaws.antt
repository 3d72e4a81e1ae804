-- Bit fields of a number: a field that was put is read back, and every other stays.
use Rattle.std.proofs.Common.{◌≡◌, ℕ, ◌+◌, ◌-◌, ◌*◌, ◌/◌, ◌%◌, ◌^◌, ◌<◌, ◌≤◌, sym, ap, ◌∙◌, add_assoc, mod-lt, mul_assoc, add-mul}
use Rattle.std.proofs.Common.{arith, pow_pos, pow-add, shr-shr, shr_lt}
use native.Mathlib.Nat.{mul-add-div_right, mul-add-mod_self_right}
use lib.Arith.{digits_lt}
use lib.Pow.{high, low, split, field, mod-mod-pow, mod-pow-add}
use Rattle.bits.specs.Fields.{field_of, with_field}

cut : (n at w v : ℕ) → with_field n at w v ≡ (n / 2 ^ (w + at) * 2 ^ w + v % 2 ^ w) * 2 ^ at + n % 2 ^ at
unfolding with_field
cut n at w v = rw (pow-add 2 w at) (omega arith)

pub field-same : (n at w v : ℕ) → field_of (with_field n at w v) at w ≡ v % 2 ^ w
unfolding field_of
field-same n at w v =
    rw (
      cut n at w v,
      high (n / 2 ^ (w + at) * 2 ^ w + v % 2 ^ w) at (mod-lt n (pow_pos at)),
      low (n / 2 ^ (w + at)) w (mod-lt v (pow_pos w)),
    )

-- the low bits of a field
pub field_part : (n at w v w' : ℕ) → w' ≤ w → field_of (with_field n at w v) at w' ≡ v % 2 ^ w'
unfolding field_of
field_part n at w v w' h =
    let e : w - w' + w' ≡ w = omega arith in
    let f : (x : ℕ) → x % 2 ^ w' ≡ x % 2 ^ w % 2 ^ w'
    = λ x. sym (mod-mod-pow x (w - w') w') ∙ ap (λ (k : ℕ). x % 2 ^ k % 2 ^ w') e in
    rw (
      cut n at w v,
      high (n / 2 ^ (w + at) * 2 ^ w + v % 2 ^ w) at (mod-lt n (pow_pos at)),
      f (n / 2 ^ (w + at) * 2 ^ w + v % 2 ^ w),
      low (n / 2 ^ (w + at)) w (mod-lt v (pow_pos w)),
      ← f v,
    )

above : (n at w v : ℕ) → with_field n at w v / 2 ^ (w + at) ≡ n / 2 ^ (w + at)
unfolding with_field
above n at w v =
    high (n / 2 ^ (w + at)) (w + at) (rw (pow-add 2 w at) (digits_lt (mod-lt v (pow_pos w)) (mod-lt n (pow_pos at))))

pub field_above : (n at w v at' w' : ℕ) → w + at ≤ at' → field_of (with_field n at w v) at' w' ≡ field_of n at' w'
unfolding field_of
field_above n at w v at' w' h =
    let e : at' ≡ w + at + (at' - (w + at)) = omega arith in
    ap (λ (k : ℕ). with_field n at w v / 2 ^ k % 2 ^ w') e
    ∙ rw (← shr-shr (with_field n at w v) (w + at) (at' - (w + at)), above n at w v, shr-shr n (w + at) (at' - (w + at)), ← e)

below : (n at w v : ℕ) → with_field n at w v % 2 ^ at ≡ n % 2 ^ at
below n at w v = rw (cut n at w v) (low (n / 2 ^ (w + at) * 2 ^ w + v % 2 ^ w) at (mod-lt n (pow_pos at)))

pub field_below : (n at w v at' w' : ℕ) → w' + at' ≤ at → field_of (with_field n at w v) at' w' ≡ field_of n at' w'
unfolding field_of
field_below n at w v at' w' h =
    let e : at - (w' + at') + (w' + at') ≡ at = omega arith in
    let f : (x : ℕ) → x / 2 ^ at' % 2 ^ w' ≡ x % 2 ^ at % 2 ^ (w' + at') / 2 ^ at' =
    λ x. sym (field x w' at')
    ∙ ap (λ (k : ℕ). k / 2 ^ at')
    (sym (mod-mod-pow x (at - (w' + at')) (w' + at')) ∙ ap (λ (k : ℕ). x % 2 ^ k % 2 ^ (w' + at')) e) in
    rw (f (with_field n at w v), f n, below n at w v)

-- a number below its width stays below
pub with_lt : (n at w v k : ℕ) → w + at ≤ k → n < 2 ^ k → with_field n at w v < 2 ^ k
unfolding with_field
with_lt n at w v k h b =
    let e : k - (w + at) + (w + at) ≡ k = omega arith in
    let c : n < 2 ^ (k - (w + at) + (w + at)) = rw e b in
    let r : v % 2 ^ w * 2 ^ at + n % 2 ^ at < 2 ^ (w + at)
    = rw (pow-add 2 w at) (digits_lt (mod-lt v (pow_pos w)) (mod-lt n (pow_pos at))) in
    rw (← e, pow-add 2 (k - (w + at)) (w + at)) (digits_lt (shr_lt (k - (w + at)) (w + at) c) r)

-- ---- two writes

-- to one field
pub with_with : (n at w u v : ℕ) → with_field (with_field n at w u) at w v ≡ with_field n at w v
with_with n at w u v = cut (with_field n at w u) at w v ∙ rw (above n at w u, below n at w u) (sym (cut n at w v))

-- past the field nothing changes
with_past : (n at w u k : ℕ) → w + at ≤ k → with_field n at w u / 2 ^ k ≡ n / 2 ^ k
with_past n at w u k h =
    let e : k ≡ w + at + (k - (w + at)) = omega arith in
    ap (λ (x : ℕ). with_field n at w u / 2 ^ x) e
    ∙ rw (← shr-shr (with_field n at w u) (w + at) (k - (w + at)), above n at w u, shr-shr n (w + at) (k - (w + at)), ← e)

-- the low bits of the result hang only on the low bits
with_mod : (n at w u k : ℕ) → w + at ≤ k → with_field n at w u % 2 ^ k ≡ with_field (n % 2 ^ k) at w u
unfolding with_field
with_mod n at w u k h =
    let e : k - (w + at) + (w + at) ≡ k = omega arith in
    let f : k - at + at ≡ k = omega arith in
    let r : u % 2 ^ w * 2 ^ at + n % 2 ^ at < 2 ^ (w + at)
    = rw (pow-add 2 w at) (digits_lt (mod-lt u (pow_pos w)) (mod-lt n (pow_pos at))) in
    let a : n % 2 ^ k / 2 ^ (w + at) ≡ n / 2 ^ (w + at) % 2 ^ (k - (w + at)) =
    ap (λ (x : ℕ). n % 2 ^ x / 2 ^ (w + at)) (sym e) ∙ field n (k - (w + at)) (w + at) in
    let b : n % 2 ^ k % 2 ^ at ≡ n % 2 ^ at = ap (λ (x : ℕ). n % 2 ^ x % 2 ^ at) (sym f) ∙ mod-mod-pow n (k - at) at in
    rw (a, b)
    (ap (λ (x : ℕ). with_field n at w u % 2 ^ x) (sym e)
    ∙ mod-pow-add (with_field n at w u) (k - (w + at)) (w + at)
    ∙ rw (high (n / 2 ^ (w + at)) (w + at) r, low (n / 2 ^ (w + at)) (w + at) r))

-- to two, in either order
pub with_comm : (n at w u at' w' v : ℕ) → w + at ≤ at'
    → with_field (with_field n at w u) at' w' v ≡ with_field (with_field n at' w' v) at w u
with_comm n at w u at' w' v h =
    let a : ℕ = with_field n at w u in
    let b : ℕ = with_field n at' w' v in
    cut a at' w' v
    ∙ rw (
      with_past n at w u (w' + at') (omega arith),
      with_mod n at w u at' h,
      ← below n at' w' v,
      ← with_mod b at w u
          at' h,
    )
    (ap (λ (y : ℕ). y * 2 ^ at' + with_field b at w u % 2 ^ at')
    (sym (with_past b at w u at' h
    ∙ rw (cut n at' w' v) (high (n / 2 ^ (w' + at') * 2 ^ w' + v % 2 ^ w') at' (mod-lt n (pow_pos at')))))
    ∙ split (with_field b at w u) at')

-- ---- a number of two words: a field of it lies in one of them

word_above : (i k hi lo : ℕ) → (hi * 2 ^ (i + k) + lo) / 2 ^ k ≡ hi * 2 ^ i + lo / 2 ^ k
word_above i k hi lo = rw (pow-add 2 i k, ← mul_assoc) (mul-add-div_right (pow_pos k) (hi * 2 ^ i) lo)

word_under : (i k hi lo : ℕ) → (hi * 2 ^ (i + k) + lo) % 2 ^ k ≡ lo % 2 ^ k
word_under i k hi lo = rw (pow-add 2 i k, ← mul_assoc) (mul-add-mod_self_right (hi * 2 ^ i) (2 ^ k) lo)

field_low' : (i w at hi lo : ℕ) → field_of (hi * 2 ^ ((i + w) + at) + lo) at w ≡ field_of lo at w
unfolding field_of
field_low' i w at hi lo = rw (word_above (i + w) at hi lo) (word_under i w hi (lo / 2 ^ at))

put_low' : (i w at hi lo v : ℕ) → with_field (hi * 2 ^ (i + (w + at)) + lo) at w v ≡ hi * 2 ^ (i + (w + at)) + with_field lo at w v
unfolding with_field
put_low' i w at hi lo v =
    let e : (hi * 2 ^ (i + (w + at)) + lo) % 2 ^ at ≡ lo % 2 ^ at = rw (← add_assoc i w at) (word_under (i + w) at hi lo) in
    rw (word_above i (w + at) hi lo, e, add-mul, mul_assoc, ← pow-add 2 i (w + at)) (add_assoc _ _ _)

-- a field at `at` of the low word, and of the high word, where it stands at 64 + at of the whole
pub field-low : (hi lo at w : ℕ) → w + at ≤ 64 → field_of (hi * 2 ^ 64 + lo) at w ≡ field_of lo at w
field-low hi lo at w h =
    let e : (64 - (w + at) + w) + at ≡ 64 = omega arith in
    rw e at (field_low' (64 - (w + at)) w at hi lo)

pub field-high : (hi lo at w : ℕ) → lo < 2 ^ 64 → field_of (hi * 2 ^ 64 + lo) (64 + at) w ≡ field_of hi at w
unfolding field_of
field-high hi lo at w h = rw (← shr-shr (hi * 2 ^ 64 + lo) 64 at, high hi 64 h)

pub with_low : (hi lo at w v : ℕ) → w + at ≤ 64 → with_field (hi * 2 ^ 64 + lo) at w v ≡ hi * 2 ^ 64 + with_field lo at w v
with_low hi lo at w v h =
    let e : 64 - (w + at) + (w + at) ≡ 64 = omega arith in
    rw e at (put_low' (64 - (w + at)) w at hi lo v)

pub with_high : (hi lo at w v : ℕ) → lo < 2 ^ 64 → with_field (hi * 2 ^ 64 + lo) (64 + at) w v ≡ with_field hi at w v * 2 ^ 64 + lo
unfolding with_field
with_high hi lo at w v h =
    let p : 64 + at ≡ at + 64 = omega arith in
    let q : w + (64 + at) ≡ 64 + (w + at) = omega arith in
    let r : 64 + (w + at) ≡ (w + at) + 64 = omega arith in
    let d : (hi * 2 ^ 64 + lo) / 2 ^ (64 + (w + at)) ≡ hi / 2 ^ (w + at)
    = rw (← shr-shr (hi * 2 ^ 64 + lo) 64 (w + at), high hi 64 h) in
    let m : (hi * 2 ^ 64 + lo) % 2 ^ (at + 64) ≡ hi % 2 ^ at * 2 ^ 64 + lo
    = rw (mod-pow-add (hi * 2 ^ 64 + lo) at 64, high hi 64 h, low hi 64 h) in
    rw (q, d, p, m, r, pow-add 2 (w + at) 64, pow-add 2 at 64)
    (regroup (hi / 2 ^ (w + at)) (2 ^ (w + at)) (v % 2 ^ w) (2 ^ at) (hi % 2 ^ at) (2 ^ 64) lo)
  where
    regroup : (a b c d e k l : ℕ) → a * (b * k) + (c * (d * k) + (e * k + l)) ≡ (a * b + (c * d + e)) * k + l
    regroup a b c d e k l = rw (← mul_assoc a b k, ← mul_assoc c d k, add-mul, add-mul) (omega arith)

-- the lowest bits
pub field-front : (n w : ℕ) → field_of n 0 w ≡ n % 2 ^ w
unfolding field_of
field-front n w = ap (λ (m : ℕ). m % 2 ^ w) (let e : n / 1 ≡ n = omega arith in e)
