-- Words and bytes, highest byte first.
use mathlib.Core.Path.{◌≡◌, refl, ap, sym, ◌∙◌}
use mathlib.Core.List.{List, ◌++◌}
use Prim.Native.Nat.{ℕ, zero, suc, ◌+◌, ◌*◌, ◌/◌, ◌%◌, ◌^◌}
use native.Mathlib.Nat.{add-zero, zero-add, add_comm, suc-add, div-div-eq-div-mul}
use native.Mathlib.Omega.{arith}
use lib.Pow.{pow-add}
use lib.ListN.{length, get_or, length-append}
use lib.Seq.{sets}
use Rattle.bits.proofs.WriteLaws.{sets_append, sets_all}
use Rattle.sha1_hash.specs.BigEndian.{big_at, big_bytes}
use Rattle.sha1_hash.specs.Sha1.{digest_bytes}

pub length-big_bytes : (n x : ℕ) → length (big_bytes n x) ≡ n
unfolding big_bytes
length-big_bytes zero x = refl
length-big_bytes (suc n) x = ap suc (length-big_bytes n x)

-- the bytes of a number of m + n bytes, in two parts
big_bytes-split : (m n x : ℕ) → big_bytes (m + n) x ≡ big_bytes m (x / 256 ^ n) ++ big_bytes n x
unfolding big_bytes
big_bytes-split zero n x = rw zero-add
big_bytes-split (suc m) n x =
    rw (suc-add, big_bytes-split m n x, div-div-eq-div-mul x (256 ^ n) (256 ^ m), ← pow-add 256 n m, add_comm n m)

-- the bytes of a word hang only on the word
big_bytes_word : (x : ℕ) → big_bytes 4 (x % 4294967296) ≡ big_bytes 4 x
unfolding big_bytes
big_bytes_word x = rw (third x, second x, first x, last x)
  where
    third : (x : ℕ) → x % 4294967296 / 16777216 % 256 ≡ x / 16777216 % 256
    third x = omega arith

    second : (x : ℕ) → x % 4294967296 / 65536 % 256 ≡ x / 65536 % 256
    second x = omega arith

    first : (x : ℕ) → x % 4294967296 / 256 % 256 ≡ x / 256 % 256
    first x = omega arith

    last : (x : ℕ) → x % 4294967296 / 1 % 256 ≡ x / 1 % 256
    last x = omega arith

-- the 64-bit length of a message of n bytes, in bits: two words
pub length-words : (n : ℕ) → big_bytes 8 (n * 8) ≡ big_bytes 4 (n / 536870912 % 4294967296) ++ big_bytes 4 (n % 536870912 * 8)
length-words n =
    let high : n * 8 / 256 ^ 4 ≡ n / 536870912 = omega arith in
    let low : n % 536870912 * 8 ≡ n * 8 % 4294967296 = omega arith in
    big_bytes-split 4 4 (n * 8) ∙ rw (high, low, big_bytes_word (n / 536870912), big_bytes_word (n * 8))

-- the sum that code forms of 4 bytes
pub big_sum : (s : List ℕ) (at : ℕ)
    → ((get_or s at 0 * 256 + get_or s (at + 1) 0) * 256 + get_or s (at + 2) 0) * 256 + get_or s (at + 3) 0 ≡ big_at s at 4
unfolding big_at
big_sum s at = rw (add-zero, zero-add)

pub length-digest_bytes : (h : List ℕ) → length (digest_bytes h) ≡ 20
unfolding digest_bytes
length-digest_bytes h = simp (length-append, length-big_bytes)

-- five words, stored one after the other over all of a list of 20 bytes
pub record FiveStored (z o1 o2 o3 o4 o5 h : List ℕ) : Type 0 where
  pub long : length z ≡ 20
  pub first : o1 ≡ sets z 0 (big_bytes 4 (get_or h 0 0))
  pub second : o2 ≡ sets o1 4 (big_bytes 4 (get_or h 1 0))
  pub third : o3 ≡ sets o2 8 (big_bytes 4 (get_or h 2 0))
  pub fourth : o4 ≡ sets o3 12 (big_bytes 4 (get_or h 3 0))
  pub fifth : o5 ≡ sets o4 16 (big_bytes 4 (get_or h 4 0))

pub five_words : (z o1 o2 o3 o4 o5 h : List ℕ) → FiveStored z o1 o2 o3 o4 o5 h → o5 ≡ digest_bytes h
unfolding digest_bytes
five_words z o1 o2 o3 o4 o5 h f =
    rw (f.fifth, f.fourth, f.third, f.second, f.first) (sym (simp (sets_append, length-big_bytes)))
    ∙ sets_all (digest_bytes h) z (length-digest_bytes h ∙ sym f.long)
