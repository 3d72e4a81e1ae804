-- What is lent is enough, or not; and what of it is cleared afterwards.
use mathlib.Core.Path.{◌≡◌, ap, ◌∙◌}
use mathlib.Core.Bool.{Bool, true, false}
use mathlib.Core.List.{List, ◌++◌}
use Prim.Native.Nat.{ℕ, ◌-◌, ◌≤◌, ◌<◌}
use native.Mathlib.Omega.{arith}
use borrow.Author.Tests.{lt-ltb, le-ltb, le-leb, lt-leb, ltb-true, leb-true}
use lib.Dec.{leb, ltb}
use lib.ListN.{length, take, drop, replicate, length-append, length-replicate}
use lib.Seq.{sets, sets-eq, length-take-le, drop-append_seam}
use native.Mathlib.Nat.{zero-add}
use Rattle.bits.specs.Choice.{both}
use Rattle.bits.proofs.TestLaws.{both_0, both_1, both-none}
use Rattle.translate.specs.Space.{Space, asked_for, is_enough}

-- the part that is lent has the length that is asked for
pub lent-long : (old : List ℕ) (n : ℕ) → n ≤ length old → length (take (n - 0) old) ≡ n
lent-long old n h = let k : n - 0 ≡ n = omega arith in rw k (length-take-le n old h)

-- what stands behind a part
drop_behind : (part rest : List ℕ) (n : ℕ) → length part ≡ n → drop n (part ++ rest) ≡ rest
drop_behind part rest n e = rw (← e) (drop-append_seam part rest)

module _ (file strings : ℕ) (space : Space) where
  abbrev asked : Space
  asked = asked_for file strings

  pub too_long : 4294967296 ≤ file → false ≡ is_enough file strings space
  unfolding is_enough
  too_long h = rw (le-ltb file 0x100000000 h)

  pub short_text : space.text < asked.text → false ≡ is_enough file strings space
  unfolding is_enough
  short_text h = rw (lt-leb asked.text space.text h, both-none (ltb file 0x100000000))

  pub short_ends : space.ends < asked.ends → false ≡ is_enough file strings space
  unfolding is_enough
  short_ends h =
      rw (
        lt-leb asked.ends space.ends h,
        both-none (leb asked.text space.text),
        both-none (ltb file 0x100000000),
      )

  -- the last test decides
  pub rest_enough : file < 4294967296 → asked.text ≤ space.text → asked.ends ≤ space.ends
      → leb asked.work space.work ≡ is_enough file strings space
  unfolding is_enough
  rest_enough h k g =
      rw (
        lt-ltb file 0x100000000 h,
        le-leb asked.text space.text k,
        le-leb asked.ends space.ends g,
      )

  pub record Enough : Type 0 where
    pub low : file < 4294967296
    pub text : asked.text ≤ space.text
    pub ends : asked.ends ≤ space.ends
    pub work : asked.work ≤ space.work

  pub enough : is_enough file strings space ≡ true → Enough
  unfolding is_enough
  enough e =
      let a : Bool = ltb file 0x100000000 in
      let b : Bool = leb asked.text space.text in
      let c : Bool = leb asked.ends space.ends in
      let d : Bool = leb asked.work space.work in
      let bs : both b (both c d) ≡ true = both_1 a (both b (both c d)) e in
      let cs : both c d ≡ true = both_1 b (both c d) bs in
      record {
        low = ltb-true file 0x100000000 (both_0 a (both b (both c d)) e);
        text = leb-true asked.text space.text (both_0 b (both c d) bs);
        ends = leb-true asked.ends space.ends (both_0 c d cs);
        work = leb-true asked.work space.work (both_1 c d cs);
      }

-- ---- a part that is lent at the front comes back with other content of its length, and is cleared

module _ (old part : List ℕ) (n : ℕ) (h : n ≤ length old) (e : length part ≡ length (take (n - 0) old)) where
  part_long : length part ≡ n
  part_long = e ∙ lent-long old n h

  pub part_within : n ≤ length (part ++ drop (n - 0) old)
  part_within = rw length-append (omega (arith, part_long))

  pub part_cleared : (new : List ℕ) → new ≡ sets (part ++ drop (n - 0) old) 0 (replicate n 0) → new ≡ replicate n 0 ++ drop n old
  part_cleared new q =
      let k : n - 0 ≡ n = omega arith in
      let zeros : List ℕ = replicate n 0 in
      let z : length zeros ≡ n = length-replicate n 0 in
      q ∙ sets-eq (replicate n 0) (part ++ drop (n - 0) old) 0 (omega (arith, part_within, z))
      ∙ rw (z, zero-add, k) (ap (λ (l : List ℕ). replicate n 0 ++ l) (drop_behind part (drop n old) n part_long))
