-- Decimal numbers: one digit after the others, and how many.
use mathlib.Core.Path.{◌≡◌, refl, ap, sym, ◌∙◌}
use mathlib.Core.Bool.{Bool, true, false}
use mathlib.Core.Logic.{◌⊎◌, inl, inr}
use mathlib.Core.List.{List, [], ◌∷◌, ◌++◌, append_assoc}
use Prim.Native.Nat.{ℕ, zero, suc, ◌+◌, ◌/◌, ◌%◌, ◌^◌, ◌≤◌, ◌<◌}
use native.Mathlib.Nat.{add_assoc}
use native.Mathlib.Omega.{arith}
use borrow.Author.Tests.{ltb-false, lt-ltb, le-ltb}
use lib.Dec.{ltb}
use lib.ListN.{length, length-append, set}
use lib.Seq.{sets}
use Rattle.bits.specs.Choice.{pick}
use Rattle.bits.proofs.TestLaws.{below_or}
use Rattle.bits.proofs.WriteLaws.{sets_then}
use Rattle.text.specs.Text.{digit, decimal_of, decimal, space, spaced, Wrote}

-- steps past the number change nothing
same : (n m x : ℕ) → x < n → x < m → decimal_of n x ≡ decimal_of m x
unfolding decimal_of
same zero m x h g = absurd (omega arith)
same (suc n) zero x h g = absurd (omega arith)
same (suc n) (suc m) x h g = go (ltb x 10) (λ k. same n m (x / 10) (omega (arith, ltb-false x 10 k)) (omega (arith, ltb-false x 10 k)))
  where
    go : (t : Bool) → (t ≡ false → decimal_of n (x / 10) ≡ decimal_of m (x / 10))
        → pick t (digit x ∷ []) (decimal_of n (x / 10) ++ (digit (x % 10) ∷ [])) ≡ pick t (digit x ∷ [])
        (decimal_of m (x / 10) ++ (digit (x % 10) ∷ []))
    go true e = refl
    go false e = ap (λ (l : List ℕ). l ++ (digit (x % 10) ∷ [])) (e refl)

pub decimal_one : (x : ℕ) → x < 10 → decimal x ≡ digit x ∷ []
unfolding decimal decimal_of
decimal_one x h = rw (lt-ltb x 10 h)

pub decimal_more : (x : ℕ) → 10 ≤ x → decimal x ≡ decimal (x / 10) ++ (digit (x % 10) ∷ [])
unfolding decimal decimal_of
decimal_more x h = rw (le-ltb x 10 h, same x (suc (x / 10)) (x / 10) (omega arith) (omega arith))

pub one_length : (x : ℕ) → x < 10 → length (decimal x) ≡ 1
one_length x h = ap length (decimal_one x h)

pub more_length : (x : ℕ) → 10 ≤ x → length (decimal x) ≡ length (decimal (x / 10)) + 1
more_length x h = ap length (decimal_more x h) ∙ length-append (decimal (x / 10)) (digit (x % 10) ∷ [])

-- a number below a power of ten has at most as many digits
pub decimal_short : (k x : ℕ) → x < 10 ^ suc k → length (decimal x) ≤ suc k
decimal_short zero x h = omega (arith, one_length x (omega arith))
decimal_short (suc k) x h = go (below_or x 10) (decimal_short k (x / 10))
  where
    go : (x < 10) ⊎ (10 ≤ x) → (x / 10 < 10 ^ suc k → length (decimal (x / 10)) ≤ suc k) → length (decimal x) ≤ suc (suc k)
    go (inl a) r = omega (arith, one_length x a)
    go (inr b) r = omega (arith, more_length x b, r (omega arith))

-- a 64-bit number has at most 20 digits
pub decimal_20 : (x : ℕ) → x < 2 ^ 64 → length (decimal x) ≤ 20
decimal_20 x h = decimal_short 19 x (omega arith)

-- ---- texts one behind the other

pub wrote_then : (l m n a b : List ℕ) (at r q : ℕ) → Wrote l at a r m → Wrote m r b q n → Wrote l at (a ++ b) q n
wrote_then l m n a b at r q w v = (
  v.0 ∙ rw w.0 (add_assoc at (length a) (length b) ∙ ap (λ (k : ℕ). at + k) (sym (length-append a b))),
  sets_then l m n a b at
      r w.1 w.0 v.1,
)

pub wrote_byte : (l m a : List ℕ) (at r b : ℕ) → Wrote l at a r m → Wrote l at (a ++ (b ∷ [])) (r + 1) (set m r b)
wrote_byte l m a at r b w = wrote_then l m (set m r b) a (b ∷ []) at r (r + 1) w (refl, refl)

pub spaced_snoc : (ws : List (List ℕ)) (w : List ℕ) → spaced (ws ++ (w ∷ [])) ≡ spaced ws ++ (w ++ (space ∷ []))
unfolding spaced
spaced_snoc [] w = refl
spaced_snoc (v ∷ ws) w = rw (spaced_snoc ws w) (sym (append_assoc v (space ∷ spaced ws) (w ++ (space ∷ []))))

-- one more word of a line
pub wrote_word : (l m n : List ℕ) (ws : List (List ℕ)) (w : List ℕ) (at r q : ℕ) → Wrote l at (spaced ws) r m
    → Wrote m r (w ++ (space ∷ [])) q n
    → Wrote l at (spaced (ws ++ (w ∷ []))) q n
wrote_word l m n ws w at r q a b = rw (spaced_snoc ws w) (wrote_then l m n (spaced ws) (w ++ (space ∷ [])) at r q a b)

-- ---- numbers, as the code writes them

pub put_one : (x at d : ℕ) (out : List ℕ) → x < 10 → d ≡ digit x → (at + 1 ≡ at + length (decimal x))
    × (set out at d ≡ sets out at (decimal x))
put_one x at d out h e = rw (decimal_one x h, ← e) (refl, refl)

pub put_more : (x at last d : ℕ) (out mid : List ℕ) → 10 ≤ x → Wrote out at (decimal (x / 10)) last mid → d ≡ digit (x % 10)
    → Wrote out at (decimal x) (last + 1) (set mid last d)
put_more x at last d out mid h w e = rw (decimal_more x h, ← e) (wrote_byte out mid (decimal (x / 10)) at last d w)
