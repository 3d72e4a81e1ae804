-- A walk down the chain of a bucket, from its head on, for a key that is sought. A cursor is one more than the number of a key, 0 at the
-- end of the chain.
use mathlib.Core.Path.{◌≡◌, sym, ◌∙◌}
use mathlib.Core.Bool.{Bool, true}
use mathlib.Core.Logic.{inl, inr}
use Prim.Native.Nat.{ℕ, suc, ◌≤◌, ◌<◌}
use native.Mathlib.Omega.{arith}
use Rattle.bits.proofs.TestLaws.{below_or}
use Rattle.chains.specs.Chains.{head_of}
use Rattle.chains.proofs.ChainLaws.{Own, head_low, head_own, head_gap}

module _ (on : ℕ → Bool) (bucket : ℕ → ℕ) (Sought : ℕ → Type 0) (b k : ℕ) where
  -- the walk has come to a cursor: it stands on an entered key of the bucket, and none behind it is sought
  pub record Walked (c : ℕ) : Type 0 where
    pub low : c ≤ k
    pub own : (j : ℕ) → c ≡ suc j → (j < k) × Own on bucket b j
    pub past : (j : ℕ) → c ≤ j → j < k → on j ≡ true → Sought j → ⊥

  module _ (owned : (j : ℕ) → j < k → Sought j → bucket j ≡ b) where
    pub walk_from : (c : ℕ) → c ≡ head_of on bucket b k → Walked c
    walk_from c e =
        record {
          low = omega (arith, head_low on bucket b k);
          own = λ j q. head_own on bucket b k j (sym e ∙ q);
          past = λ j l h o s. head_gap on bucket b k j h (omega arith) (o, owned j h s);
        }

    module _ (c : ℕ) (w : Walked c) where
      -- at the end none is sought
      pub walk_end : c ≤ 0 → (j : ℕ) → j < k → on j ≡ true → Sought j → ⊥
      walk_end e j = w.past j (omega arith)

      module _ (j : ℕ) (e : c ≡ suc j) (d : ℕ) (f : d ≡ head_of on bucket (bucket j) j) where
        pub walk_lower : d < c
        walk_lower = omega (arith, head_low on bucket (bucket j) j)

        -- one key further, where this one is not sought
        pub walk_on : (Sought j → ⊥) → Walked d
        walk_on other =
            let q = w.own j e in
            let h : d ≡ head_of on bucket b j = rw q.1.1 at f in
            record {
              low = omega (arith, head_low on bucket b j, w.low);
              own = λ i x. let o = head_own on bucket b j i (sym h ∙ x) in (omega (arith, o.0, q.0), o.1);
              past = λ i l m o s. elim (below_or i j) [
                | inl n ↦ head_gap on bucket b j i n (omega arith) (o, owned i m s)
                | inr n ↦ elim (below_or j i) [
                  | inl u ↦ w.past i (omega arith) m o s
                  | inr u ↦ let x : i ≡ j = omega arith in other (rw x at s)
                ]
              ];
            }
