-- The words of a schedule, each by its number.
use mathlib.Core.Path.{◌≡◌, refl, sym, ◌∙◌}
use mathlib.Core.List.{List, [], ◌∷◌, ◌++◌}
use Prim.Native.Nat.{ℕ, zero, suc, ◌+◌, ◌-◌, ◌*◌, ◌≤◌, ◌<◌}
use native.Mathlib.Nat.{add-zero, zero-add, add-suc}
use native.Mathlib.Omega.{arith}
use lib.ListN.{length, get_or, length-append, get_or-append}
use lib.Seq.{get_or-append_seam}
use Rattle.sha1_hash.specs.BigEndian.{big_at}
use Rattle.sha1_hash.specs.Sha1.{words, next_word, extended, schedule}

-- ---- lists that grow at their end, f n by the number g n

module _ (f : ℕ → List ℕ) (g : ℕ → ℕ) (more : (n : ℕ) → f (suc n) ≡ f n ++ g n ∷ []) where
  length-grown : (n : ℕ) → length (f n) ≡ length (f 0) + n
  length-grown zero = sym (add-zero _)
  length-grown (suc n) = rw (more n, length-append, length-grown n) (omega arith)

  -- what is there stays
  stays : (n k j : ℕ) → j < length (f 0) + k → get_or (f (k + n)) j 0 ≡ get_or (f k) j 0
  stays zero k j h = rw add-zero
  stays (suc n) k j h =
      rw (add-suc, more (k + n)) (get_or-append (f (k + n)) _ 0 j (rw (length-grown (k + n)) (omega arith)) ∙ stays n k j h)

  grown-at : (n k : ℕ) → get_or (f (suc k + n)) (length (f 0) + k) 0 ≡ g k
  grown-at n k =
      stays n (suc k) (length (f 0) + k) (omega arith) ∙ rw (more k, ← length-grown k) (get_or-append_seam (f k) (g k) [] 0)

-- ---- the schedule of a block

sixteen_words : (block : List ℕ) → length (words 16 block) ≡ 16
unfolding words
sixteen_words block = refl

module _ (block : List ℕ) where
  more_words : (n : ℕ) → words (suc n) block ≡ words n block ++ big_at block (n * 4) 4 ∷ []
  unfolding words
  more_words n = refl

  more_extended : (n : ℕ)
      → extended (suc n) (words 16 block) ≡ extended n (words 16 block) ++ next_word (extended n (words 16 block)) (16 + n) ∷ []
  unfolding extended
  more_extended n = refl

  first : extended 0 (words 16 block) ≡ words 16 block
  unfolding extended
  first = refl

  -- the first 16 words are the block's
  pub early_word : (t : ℕ) → t < 16 → get_or (schedule block) t 0 ≡ big_at block (t * 4) 4
  unfolding schedule words
  early_word t h =
      let e : suc t + (15 - t) ≡ 16 = omega arith in
      stays (λ n. extended n (words 16 block)) _ more_extended 64 0 t (rw (first, sixteen_words block) (omega arith))
      ∙ rw first (rw (e, zero-add) at (grown-at (λ n. words n block) _ more_words (15 - t) t))

  -- each later word comes from words before it
  pub later_word : (t : ℕ) → 16 ≤ t → t < 80 → get_or (schedule block) t 0 ≡ next_word (schedule block) t
  unfolding schedule next_word
  later_word t h k =
      let f : ℕ → List ℕ = λ n. extended n (words 16 block) in
      let l : length (f 0) ≡ 16 = rw first (sixteen_words block) in
      let m : suc (t - 16) + (79 - t) ≡ 64 = omega arith in
      let n : t - 16 + (80 - t) ≡ 64 = omega arith in
      let i : 16 + (t - 16) ≡ t = omega arith in
      let s : (j : ℕ) → j < t → get_or (f 64) j 0 ≡ get_or (f (t - 16)) j 0
      = λ j q. rw n at (stays f _ more_extended (80 - t) (t - 16) j (omega arith)) in
      (rw (m, l, i) at (grown-at f _ more_extended (79 - t) (t - 16)))
      ∙ sym (rw (s (t - 3) (omega arith), s (t - 8) (omega arith), s (t - 14) (omega arith), s (t - 16) (omega arith)))
