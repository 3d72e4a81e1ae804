-- What the ring holds, round by round.
use mathlib.Core.Path.{◌≡◌, refl, sym, ◌∙◌}
use mathlib.Core.Bool.{Bool, true, false}
use mathlib.Core.List.{List}
use Prim.Native.Nat.{ℕ, ◌+◌, ◌-◌, ◌/◌, ◌%◌, ◌≤◌, ◌<◌}
use native.Mathlib.Nat.{zero-add}
use native.Mathlib.Numerals.{add-one}
use native.Mathlib.Omega.{arith}
use borrow.Author.Tests.{eqb-true, eqb-false}
use lib.Dec.{eqb}
use lib.ListN.{length, set, get_or, length-set}
use lib.Seq.{get_or-set_same, get_or-set_other}
use Rattle.bits.specs.Word32.{xor32, rotl32}
use Rattle.sha1_hash.specs.Functions.{f_in, k_in, f_of, k_of}
use Rattle.sha1_hash.specs.Sha1.{schedule, next_word, turned, round_of, rounds}
use Rattle.sha1_hash.specs.Ring.{Holds, AtRound}
use Rattle.sha1_hash.proofs.ScheduleLaws.{later_word}

-- with W_t in the place that W_(t-16) had, the ring holds what it has to before round t + 1
holds_more : (w ring : List ℕ) (t x : ℕ) → Holds w t ring → x ≡ get_or w t 0 → Holds w (t + 1) (set ring (t % 16) x)
unfolding Holds
holds_more w ring t x h e = (simp length-set h.0, λ j a b. go j a b (eqb j t) refl)
  where
    go : (j : ℕ) → j < t + 1 → t + 1 ≤ j + 16 → (b : Bool) → eqb j t ≡ b
        → get_or (set ring (t % 16) x) (j % 16) 0 ≡ get_or w j 0
    go j a b true q = rw (eqb-true j t q) (get_or-set_same ring (t % 16) x 0 (rw h.0 (omega arith)) ∙ e)
    go j a b false q =
        let n = eqb-false j t q in
        let l : j < t = omega arith in
        get_or-set_other ring (t % 16) (j % 16) x 0 (λ p. omega arith) ∙ h.1 j l (omega arith)

-- the word of round t, from the words in the ring
pub from_ring : (block ring : List ℕ) (t : ℕ) → Holds (schedule block) t ring → 16 ≤ t → t < 80
    → rotl32 1 (xor32 (xor32 (xor32 (get_or ring ((t - 3) % 16) 0) (get_or ring ((t - 8) % 16) 0))
    (get_or ring ((t - 14) % 16) 0)) (get_or ring ((t - 16) % 16) 0))
    ≡ get_or (schedule block) t 0
unfolding Holds next_word
from_ring block ring t h a b =
    rw (
      h.1 (t - 3) (omega arith) (omega arith),
      h.1 (t - 8) (omega arith) (omega arith),
      h.1 (t - 14) (omega arith) (omega arith),
      h.1 (t - 16) (omega arith) (omega arith),
    )
    (sym (later_word block t a b))

module _ (h block : List ℕ) where
  -- before round 0 any 16 words do
  pub begun : (ring : List ℕ) → 64 ≤ length block → length ring ≡ 16 → AtRound h block 0 h ring
  unfolding AtRound Holds rounds
  begun ring l e = (l, refl, (e, λ j a b. absurd (omega arith)))

  module _ (t : ℕ) (v ring : List ℕ) (s : AtRound h block t v ring) where
    -- what is known before round t, one by one
    pub block_long : 64 ≤ length block
    unfolding AtRound
    block_long = s.0

    pub ring_holds : Holds (schedule block) t ring
    unfolding AtRound
    ring_holds = s.2

    pub variables : v ≡ rounds 0 t h (schedule block)
    unfolding AtRound
    variables = s.1

    -- a round with the schedule's word, which is put in the ring
    pub next_round : (x : ℕ) (n : List ℕ) → x ≡ get_or (schedule block) t 0
        → n ≡ turned v (f_in (t / 20) (get_or v 1 0) (get_or v 2 0) (get_or v 3 0)) (k_in (t / 20)) x
        → AtRound h block (t + 1) n (set ring (t % 16) x)
    unfolding AtRound rounds round_of f_of k_of
    next_round x n e p = (s.0, p ∙ rw (add-one, zero-add, ← s.1, e), holds_more (schedule block) ring t x s.2 e)
