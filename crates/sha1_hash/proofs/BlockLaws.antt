-- Blocks, one after the other, and the padded end of a message.
use mathlib.Core.Path.{◌≡◌, refl, sym, ◌∙◌}
use mathlib.Core.List.{List, [], ◌∷◌, ◌++◌}
use Prim.Native.Nat.{ℕ, zero, suc, ◌+◌, ◌-◌, ◌*◌, ◌/◌, ◌%◌, ◌≤◌, ◌<◌}
use native.Mathlib.Nat.{add-zero, zero-add, add-suc}
use native.Mathlib.Numerals.{add-one}
use native.Mathlib.Omega.{arith}
use lib.ListN.{length, set, take, drop, get_or, length-drop, length-append, replicate, length-replicate, get_or-replicate}
use lib.Seq.{take_all, take-append-le, drop-append-le, drop-drop, sets, sets-eq, get_or-set_other}
use Rattle.bits.proofs.ListLaws.{AllBelow, below_append}
use Rattle.bits.proofs.WriteLaws.{sets_append, sets_off, sets_same}
use Rattle.sha1_hash.specs.BigEndian.{big_bytes}
use Rattle.sha1_hash.specs.Sha1.{zeros, padding, padded, block_at, initial, hashed, hashes, digest_bytes, digest}
use Rattle.sha1_hash.proofs.BigEndianLaws.{length-big_bytes, length-words, length-digest_bytes}

-- ---- blocks

pub hashed_more : (h s g n : List ℕ) (i : ℕ) → g ≡ hashes i h s → n ≡ hashed g (take (i * 64 + 64 - i * 64) (drop (i * 64) s))
    → n ≡ hashes (i + 1) h s
unfolding hashes block_at
hashed_more h s g n i p e =
    let d : i * 64 + 64 - i * 64 ≡ 64 = omega arith in
    rw add-one (rw (p, d) at e)

-- what stands past the blocks does not count
hashes-only : (n : ℕ) (h s t : List ℕ) → n * 64 ≤ length s → hashes n h (s ++ t) ≡ hashes n h s
unfolding hashes block_at
hashes-only zero h s t l = refl
hashes-only (suc n) h s t l =
    let a : n * 64 ≤ length s = omega arith in
    let b : 64 ≤ length (drop (n * 64) s) = rw length-drop (omega arith) in
    rw (hashes-only n h s t a, drop-append-le (n * 64) s t a, take-append-le 64 (drop (n * 64) s) t b)

-- n blocks and then m
hashes_append : (n m : ℕ) (h s : List ℕ) → hashes (n + m) h s ≡ hashes m (hashes n h s) (drop (n * 64) s)
unfolding hashes block_at
hashes_append n zero h s = rw add-zero
hashes_append n (suc m) h s =
    let e : n * 64 + m * 64 ≡ (n + m) * 64 = omega arith in
    rw (add-suc, hashes_append n m h s, drop-drop (m * 64) (n * 64) s, e)

-- ---- padding

-- 5.1.1: the zeros are right, and being fewer than 64 they are the fewest that are
zeros_right : (n : ℕ) → ((n + 1 + zeros n) % 64 ≡ 56) × (zeros n < 64)
unfolding zeros
zeros_right n = (omega arith, omega arith)

length-padding : (n : ℕ) → length (padding n) ≡ 9 + zeros n
unfolding padding
length-padding n = rw (length-append, length-replicate, length-big_bytes) (omega arith)

-- the code's stores in an array of zeros, one after the other: the rest, the byte 0x80, and the two words of the length
pub record PaddingStored (rest : List ℕ) (n count : ℕ) (o1 o2 o3 : List ℕ) : Type 0 where
  pub counted : count ≡ (n % 64 + 72) / 64
  pub copied : o1 ≡ sets (replicate 128 0) 0 rest
  pub high : o2 ≡ sets (set o1 (n % 64) 0x80) (count * 64 - 8) (big_bytes 4 (n / 536870912 % 4294967296))
  pub low : o3 ≡ sets o2 (count * 64 - 4) (big_bytes 4 (n % 536870912 * 8))

module _ (rest : List ℕ) (n : ℕ) (l : length rest ≡ n % 64) where
  -- past the byte 0x80 the array still has its zeros
  still : (j : ℕ) → j < zeros n → get_or (set (sets (replicate 128 0) 0 rest) (n % 64) 0x80) (n % 64 + 1 + j) 0 ≡ 0
  still j k =
      get_or-set_other (sets (replicate 128 0) 0 rest) (n % 64) (n % 64 + 1 + j) 0x80 0 (λ e. omega arith)
      ∙ sets_off rest (replicate 128 0) 0 (n % 64 + 1 + j) (λ e. omega arith)
      ∙ get_or-replicate 128 (n % 64 + 1 + j) 0 0 (omega (arith, (zeros_right n).1))

  pub padded_rest : (count : ℕ) (o1 o2 o3 : List ℕ) → PaddingStored rest n count o1 o2 o3
      → o3 ≡ sets (replicate 128 0) 0 (rest ++ padding n)
  unfolding padding
  padded_rest count o1 o2 o3 y =
      let f = (zeros_right n).0 in
      let g = (zeros_right n).1 in
      let e : n % 64 + 1 + zeros n ≡ count * 64 - 8 = omega arith in
      let k : count * 64 - 8 + 4 ≡ count * 64 - 4 = omega arith in
      y.low ∙ rw (y.high, y.copied) (sym (rw (
        sets_append rest,
        zero-add,
        l,
        sets_append (0x80 ∷ []),
        sets_append (replicate (zeros n) 0),
        length-replicate,
        e,
        length-words
            n,
        sets_append (big_bytes 4 (n / 536870912 % 4294967296)),
        length-big_bytes,
        k,
        sets_same (replicate (zeros n) 0)
            (set (sets (replicate 128 0) 0 rest) (n % 64) 0x80) (n % 64 + 1)
            (λ j h. still j (rw length-replicate at h) ∙ sym (get_or-replicate (zeros n) j 0 0 (rw length-replicate at h))),
      )))

-- ---- the whole message, from its full blocks and its padded rest

pub whole : (s last h : List ℕ) (c : ℕ) → c ≡ (length s % 64 + 72) / 64
    → h ≡ hashes (length s / 64) initial s
    → last ≡ sets (replicate 128 0) 0 (take (length s - length s / 64 * 64) (drop (length s / 64 * 64) s) ++ padding (length s))
    → digest_bytes (hashes c h last) ≡ digest s
unfolding digest padded
whole s last h c a p q =
    let n = length s in
    let f = n / 64 in
    let d = drop (f * 64) s ++ padding n in
    let z = zeros_right n in
    let ld : length d ≡ c * 64 = length-append (drop (f * 64) s) (padding n) ∙ rw (length-drop, length-padding n) (omega arith) in
    let lp : length (s ++ padding n) ≡ (f + c) * 64 = length-append s (padding n) ∙ rw (length-padding n) (omega arith) in
    let k : length (s ++ padding n) / 64 ≡ f + c = omega arith in
    let t : take (n - f * 64) (drop (f * 64) s) ≡ drop (f * 64) s
    = take_all (n - f * 64) (drop (f * 64) s) (rw length-drop (omega arith)) in
    let w : last ≡ d ++ drop (length d) (replicate 128 0) = (rw t at q) ∙ rw (sets-eq d (replicate 128 0) 0 (omega arith), zero-add) in
    rw (w, hashes-only c h d (drop (length d) (replicate 128 0)) (omega arith), p)
    (sym (rw (
      k,
      hashes_append f c initial (s ++ padding n),
      hashes-only f initial s (padding n) (omega arith),
      drop-append-le (f * 64) s
          (padding n) (omega arith),
    )))

pub length-digest : (m : List ℕ) → length (digest m) ≡ 20
unfolding digest
length-digest m = length-digest_bytes (hashes (length (padded m) / 64) initial (padded m))

-- its bytes are bytes
big_below : (n x : ℕ) → AllBelow 256 (big_bytes n x)
unfolding big_bytes
big_below zero x p = omega arith
big_below (suc n) x zero = omega arith
big_below (suc n) x (suc p) = big_below n x p

big_before : (n x : ℕ) (ys : List ℕ) → AllBelow 256 ys → AllBelow 256 (big_bytes n x ++ ys)
big_before n x ys h = below_append 256 (omega arith) (big_bytes n x) ys (big_below n x) h

pub digest_below : (m : List ℕ) → AllBelow 256 (digest m)
unfolding digest digest_bytes
digest_below m =
    let h : List ℕ = hashes (length (padded m) / 64) initial (padded m) in
    let w : ℕ → List ℕ = λ i. big_bytes 4 (get_or h i 0) in
    big_before 4 (get_or h 0 0) (w 1 ++ (w 2 ++ (w 3 ++ w 4)))
    (big_before 4 (get_or h 1 0) (w 2 ++ (w 3 ++ w 4))
    (big_before 4 (get_or h 2 0) (w 3 ++ w 4) (big_before 4 (get_or h 3 0) (w 4) (big_below 4 (get_or h 4 0)))))
