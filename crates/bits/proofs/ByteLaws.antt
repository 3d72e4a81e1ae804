-- Bytes and numbers, over the number of bytes.
use Rattle.std.proofs.Common.{◌≡◌, ℕ, zero, suc, ◌+◌, ◌*◌, ◌/◌, ◌%◌, ◌^◌, ◌<◌, ◌≤◌, List, [], ◌∷◌, ◌++◌, length, get_or, take}
use Rattle.std.proofs.Common.{drop, sym, refl, ap, ◌∙◌, le_of_suc-le-suc, not-suc-le-zero, add-zero, add_assoc, add-suc}
use Rattle.std.proofs.Common.{mul_assoc, mul_comm, add-mul, add_comm, suc-add, pow-suc, zero-add, mul-one, arith, length-append}
use Rattle.std.proofs.Common.{drop-cons}
use native.Mathlib.Nat.{div-div-eq-div-mul, mul-add-mod_self_right, mul-add-div_right}
use lib.ListN.{get_or-append}
use lib.Pow.{high}
use Rattle.bits.specs.Bytes.{bytes_at, number, bytes_of, number_at, words_of}
use Rattle.bits.proofs.ListLaws.{get_d_past, Lies, AllBelow, below_nil, below_append, below_bytes_of}

pub length-bytes_of : (n x : ℕ) → length (bytes_of n x) ≡ n
unfolding bytes_of
length-bytes_of zero x = refl
length-bytes_of (suc n) x = ap suc (length-bytes_of n (x / 256))

pub length-bytes_at : (s : List ℕ) (at n : ℕ) → length (bytes_at s at n) ≡ n
unfolding bytes_at
length-bytes_at s at zero = refl
length-bytes_at s at (suc n) = ap suc (length-bytes_at s (suc at) n)

-- ---- reading n bytes

-- two lists that agree byte by byte read as the same bytes
pub bytes_at_ext : (s t : List ℕ) (n p q : ℕ) → ((j : ℕ) → j < n → get_or s (p + j) 0 ≡ get_or t (q + j) 0)
    → bytes_at s p n ≡ bytes_at t q n
unfolding bytes_at
bytes_at_ext s t zero p q h = refl
bytes_at_ext s t (suc n) p q h =
    let a : get_or s p 0 ≡ get_or t q 0 = simp add-zero at (h 0 (omega arith)) in
    let r : bytes_at s (suc p) n ≡ bytes_at t (suc q) n =
    bytes_at_ext s t n (suc p) (suc q) (λ j k. simp (suc-add, add-suc) (simp (suc-add, add-suc) at (h (suc j) (omega arith)))) in
    rw (a, r)

-- byte j of n bytes
pub get_d_bytes_at : (s : List ℕ) (n p j : ℕ) → j < n → get_or (bytes_at s p n) j 0 ≡ get_or s (p + j) 0
unfolding bytes_at
get_d_bytes_at s zero p j h = absurd (not-suc-le-zero h)
get_d_bytes_at s (suc n) p zero h = rw add-zero
get_d_bytes_at s (suc n) p (suc j) h = rw (add-suc, ← suc-add) (get_d_bytes_at s n (suc p) j (omega arith))

bytes_at_cons : (x : ℕ) (xs : List ℕ) (n p : ℕ) → bytes_at (x ∷ xs) (suc p) n ≡ bytes_at xs p n
unfolding bytes_at
bytes_at_cons x xs zero p = refl
bytes_at_cons x xs (suc n) p = rw (bytes_at_cons x xs n (suc p))

pub bytes_at_self : (xs : List ℕ) → bytes_at xs 0 (length xs) ≡ xs
unfolding bytes_at
bytes_at_self [] = refl
bytes_at_self (x ∷ xs) = rw (bytes_at_cons x xs (length xs) 0, bytes_at_self xs)

-- and as the same number
pub number_at_ext : (s t : List ℕ) (n p q : ℕ) → ((j : ℕ) → j < n → get_or s (p + j) 0 ≡ get_or t (q + j) 0)
    → number_at s p n ≡ number_at t q n
number_at_ext s t n p q h = ap number (bytes_at_ext s t n p q h)

-- n bytes from a place on are a list, if byte by byte they are
pub bytes_at-is : (s xs : List ℕ) (p n : ℕ) → length xs ≡ n → ((j : ℕ) → j < n → get_or s (p + j) 0 ≡ get_or xs j 0)
    → bytes_at s p n ≡ xs
bytes_at-is s xs p n l h = bytes_at_ext s xs n p 0 (λ j k. h j k ∙ rw zero-add) ∙ rw (← l) (bytes_at_self xs)

-- they are the part of a slice that code lends
pub bytes_at-take : (s : List ℕ) (n p : ℕ) → p + n ≤ length s → bytes_at s p n ≡ take n (drop p s)
unfolding bytes_at
bytes_at-take s zero p h = refl
bytes_at-take s (suc n) p h = rw (drop-cons s p 0 (omega arith), bytes_at-take s n (suc p) (omega arith))

-- ---- a number of m + n bytes, in two parts

pub bytes_of-split : (m n x : ℕ) → bytes_of (m + n) x ≡ bytes_of m x ++ bytes_of n (x / 256 ^ m)
unfolding bytes_of
bytes_of-split zero n x = rw zero-add (ap (bytes_of n) (let e : x ≡ x / 1 = omega arith in e))
bytes_of-split (suc m) n x =
    rw (suc-add, bytes_of-split m n (x / 256), div-div-eq-div-mul x 256 (256 ^ m))
    (ap (λ (k : ℕ). x % 256 ∷ bytes_of m (x / 256) ++ bytes_of n (x / k)) (mul_comm 256 (256 ^ m) ∙ sym (pow-suc 256 m)))

pub number_at-split : (s : List ℕ) (at m n : ℕ) → number_at s at (m + n) ≡ number_at s at m + number_at s (at + m) n * 256 ^ m
unfolding number bytes_at
number_at-split s at zero n = rw (zero-add, add-zero, zero-add) (sym (mul-one (number_at s at n)))
number_at-split s at (suc m) n =
    let e : suc at + m ≡ at + suc m = omega arith in
    rw (suc-add, number_at-split s (suc at) m n, e)
    (regroup (get_or s at 0) (number_at s (suc at) m) (number_at s (at + suc m) n) (256 ^ m)
    ∙ ap (λ (k : ℕ). get_or s at 0 + number_at s (suc at) m * 256 + number_at s (at + suc m) n * k) (sym (pow-suc 256 m)))
  where
    regroup : (a b c k : ℕ) → a + (b + c * k) * 256 ≡ a + b * 256 + c * (k * 256)
    regroup a b c k = rw (add-mul b (c * k) 256, mul_assoc c k 256) (sym (add_assoc a (b * 256) (c * (k * 256))))

-- the low bytes hang only on the low part
bytes_of_past : (n h x : ℕ) → bytes_of n (h * 256 ^ n + x) ≡ bytes_of n x
unfolding bytes_of
bytes_of_past zero h x = refl
bytes_of_past (suc n) h x =
    let e : h * 256 ^ suc n + x ≡ h * 256 ^ n * 256 + x = rw (pow-suc 256 n, mul_assoc h (256 ^ n) 256) in
    rw (
      e,
      mul-add-mod_self_right (h * 256 ^ n) 256 x,
      mul-add-div_right {m = 256} (omega arith) (h * 256 ^ n) x,
      bytes_of_past n h
          (x / 256),
    )

-- a number of two words, the second of n bytes
pub bytes_of-words : (n hi lo : ℕ) → lo < 2 ^ 64 → bytes_of (8 + n) (hi * 2 ^ 64 + lo) ≡ bytes_of 8 lo ++ bytes_of n hi
bytes_of-words n hi lo h =
    bytes_of-split 8 n (hi * 2 ^ 64 + lo) ∙ ap (λ (k : ℕ). bytes_of 8 (hi * 2 ^ 64 + lo) ++ bytes_of n k) (high hi 64 h)
    ∙ ap (λ (l : List ℕ). l ++ bytes_of n hi) (bytes_of_past 8 hi lo)

pub number_at-words : (s : List ℕ) (at n : ℕ) → number_at s at (8 + n) ≡ number_at s (at + 8) n * 2 ^ 64 + number_at s at 8
number_at-words s at n = number_at-split s at 8 n ∙ add_comm (number_at s at 8) (number_at s (at + 8) n * 2 ^ 64)

-- ---- writing a number and reading it

pub number_back : (n x : ℕ) → x < 256 ^ n → number (bytes_of n x) ≡ x
unfolding number bytes_of
number_back zero x h = omega arith
number_back (suc n) x h = rw (number_back n (x / 256) (omega arith)) (omega arith)

-- a number is read where its bytes lie, and a number of other bytes where those lie
pub number_lies : (s : List ℕ) (at n x : ℕ) → Lies s at (bytes_of n x) → x < 256 ^ n → number_at s at n ≡ x
number_lies s at n x h k =
    ap number (bytes_at-is s (bytes_of n x) at n (length-bytes_of n x) (λ j g. h j (rw length-bytes_of g))) ∙ number_back n x k

pub number_at_lies : (s xs : List ℕ) (at p n : ℕ) → Lies s at xs → p + n ≤ length xs → number_at s (at + p) n ≡ number_at xs p n
number_at_lies s xs at p n h k = number_at_ext s xs n (at + p) p (λ j g. rw add_assoc (h (p + j) (omega arith)))

-- n bytes hold a number below 256 ^ n
number_lt : (bs : List ℕ) → AllBelow 256 bs → number bs < 256 ^ length bs
unfolding number
number_lt [] h = omega arith
number_lt (b ∷ bs) h = rw pow-suc (omega (arith, h 0, number_lt bs (λ j. h (suc j))))

pub bytes_at_below : (s : List ℕ) (n p : ℕ) → AllBelow 256 s → AllBelow 256 (bytes_at s p n)
unfolding bytes_at
bytes_at_below s zero p h j = omega arith
bytes_at_below s (suc n) p h zero = h p
bytes_at_below s (suc n) p h (suc j) = bytes_at_below s n (suc p) h j

pub number_at-lt : (s : List ℕ) (p n : ℕ) → AllBelow 256 s → number_at s p n < 256 ^ n
number_at-lt s p n h = rw length-bytes_at at (number_lt (bytes_at s p n) (bytes_at_below s n p h))

-- the sum that code forms of 4 bytes
pub word_sum : (s : List ℕ) (at : ℕ)
    → get_or s at 0 + get_or s (at + 1) 0 * 256 + get_or s (at + 2) 0 * 65536 + get_or s (at + 3) 0 * 16777216 ≡ number_at s at 4
unfolding number bytes_at
word_sum s at =
    let a : at + 1 ≡ suc at = omega arith in
    let b : at + 2 ≡ suc (suc at) = omega arith in
    let c : at + 3 ≡ suc (suc (suc at)) = omega arith in
    rw (a, b, c) (omega arith)

-- ---- words, one behind the other

pub length-words : (ws : List ℕ) → length (words_of ws) ≡ length ws * 4
unfolding words_of
length-words [] = refl
length-words (w ∷ ws) = length-append (bytes_of 4 w) (words_of ws) ∙ rw (length-bytes_of 4 w, length-words ws) (omega arith)

-- word j
pub words-at : (ws : List ℕ) (j : ℕ) → j < length ws → ((k : ℕ) → k < length ws → get_or ws k 0 < 2 ^ 32)
    → number_at (words_of ws) (j * 4) 4 ≡ get_or ws j 0
unfolding words_of
words-at [] j h f = absurd (not-suc-le-zero h)
words-at (w ∷ ws) zero h f =
    ap number (bytes_at-is (bytes_of 4 w ++ words_of ws) (bytes_of 4 w) 0 4 (length-bytes_of 4 w)
    (λ i k. rw zero-add (get_or-append (bytes_of 4 w) (words_of ws) 0 i (rw length-bytes_of k))))
    ∙ number_back 4 w (f 0 h)
words-at (w ∷ ws) (suc j) h f =
    number_at_ext (bytes_of 4 w ++ words_of ws) (words_of ws) 4 (suc j * 4) (j * 4)
    (λ i k.
    let e : suc j * 4 + i ≡ 4 + (j * 4 + i) = omega arith in
    rw e (get_d_past (bytes_of 4 w) (words_of ws) 4 (j * 4 + i) (length-bytes_of 4 w)))
    ∙ words-at ws j (le_of_suc-le-suc h) (λ k g. f (suc k) (omega arith))

pub words_below : (ws : List ℕ) → AllBelow 256 (words_of ws)
unfolding words_of
words_below [] = below_nil 256 (omega arith)
words_below (w ∷ ws) = below_append 256 (omega arith) (bytes_of 4 w) (words_of ws) (below_bytes_of 4 w) (words_below ws)
