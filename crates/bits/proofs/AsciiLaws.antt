-- Bytes gathered by `or`, one test of what was gathered, and what the test says of each byte.
use Rattle.std.proofs.Common.{◌≡◌, ℕ, ◌+◌, Bool, true, ltb, leb, List, length, get_or, sym, ◌∙◌, inl, inr, arith, ltb-false}
use Rattle.std.proofs.Common.{ltb-true, le-ltb, lt-ltb, le-leb, leb-true}
use borrow.Author.Tests.{lt-leb}
use lib.Bits.{bit_or, or_add_and, and_le_l, and_le_r, or_lt}
use lib.ListN.{get_or-eq_default}
use Rattle.bits.specs.Choice.{both, all_below}
use Rattle.bits.specs.Bytes.{ascii}
use Rattle.bits.proofs.TestLaws.{which, below_or, all_none, all_next, all_at}
use Rattle.bits.proofs.ListLaws.{AllBelow}

-- the code's form of the test
narrow : (b : ℕ) → leb b 0x7F ≡ ltb b 128
narrow b =
    elim (below_or b 128) [
      | inl h ↦ le-leb b 127 (omega arith) ∙ sym (lt-ltb b 128 h)
      | inr h ↦ lt-leb b 127 (omega arith) ∙ sym (le-ltb b 128 h)
    ]

or_below : (a b : ℕ) → ltb (bit_or a b) 128 ≡ both (ltb b 128) (ltb a 128)
or_below a b =
    elim (which (ltb b 128)) [
      | inl u ↦ rw u (elim (which (ltb a 128)) [
        | inl t ↦ rw t (lt-ltb (bit_or a b) 128 (or_lt 7 a b (ltb-true a 128 t) (ltb-true b 128 u)))
        | inr f ↦ rw f (le-ltb (bit_or a b) 128 (omega (arith, or_add_and a b, and_le_r a b, ltb-false a 128 f)))
      ])
      | inr f ↦ rw f (le-ltb (bit_or a b) 128 (omega (arith, or_add_and a b, and_le_l a b, ltb-false b 128 f)))
    ]

-- the first i bytes are ASCII
abbrev pub ascii_to : List ℕ → ℕ → Bool
ascii_to s i = all_below i (λ j. leb (get_or s j 0) 0x7F)

pub ascii-none : (s : List ℕ) → ltb 0 128 ≡ ascii_to s 0
ascii-none s = sym (all_none (λ j. leb (get_or s j 0) 0x7F))

pub ascii_next : (s : List ℕ) (i seen : ℕ) → ltb seen 128 ≡ ascii_to s i → ltb (bit_or seen (get_or s i 0)) 128 ≡ ascii_to s (i + 1)
ascii_next s i seen h = or_below seen (get_or s i 0) ∙ rw (h, ← narrow (get_or s i 0)) (sym (all_next (λ j. leb (get_or s j 0) 0x7F) i))

pub ascii_all : (s : List ℕ) (i : ℕ) → i ≡ length s → ascii_to s i ≡ ascii s
unfolding ascii
ascii_all s i e = rw e

-- each byte of ASCII bytes is below 0x80
pub ascii_below : (s : List ℕ) → ascii s ≡ true → AllBelow 0x80 s
unfolding ascii
ascii_below s t p =
    elim (below_or p (length s)) [
      | inl h ↦ omega (arith, leb-true (get_or s p 0) 0x7F (all_at (λ i. leb (get_or s i 0) 0x7F) (length s) p t h))
      | inr h ↦ rw (get_or-eq_default s 0 {n = p} h) (omega arith)
    ]
