-- Three runs of words: filled entry by entry, and read back.
use mathlib.Core.Path.{◌≡◌, refl, ap, sym, ◌∙◌}
use mathlib.Core.Logic.{◌⊎◌, inl, inr}
use mathlib.Core.List.{List, [], ◌∷◌, ◌++◌}
use Prim.Native.Nat.{ℕ, zero, suc, ◌+◌, ◌≤◌, ◌<◌}
use native.Mathlib.Nat.{not-suc-le-zero, zero-add, add-zero, add_assoc}
use native.Mathlib.Numerals.{add-one}
use native.Mathlib.Omega.{arith}
use lib.ListN.{length, get_or, set, length-append, get_or-append}
use lib.Seq.{sets}
use Rattle.bits.proofs.ListLaws.{get_d_past}
use Rattle.bits.proofs.TestLaws.{below}
use Rattle.bits.proofs.WriteLaws.{sets_in, sets_append, sets_comm}
use Rattle.string_index.specs.declared.Entry.{Entry}
use Rattle.string_index.specs.Index.{tabulate, runs, words_for, entry_in}
use Rattle.string_index.specs.Filling.{put_entry, put_entries}

-- ---- one run

module _ (f : ℕ → ℕ) where
  length-tab : (n : ℕ) → length (tabulate n f) ≡ n
  unfolding tabulate
  length-tab zero = refl
  length-tab (suc n) = omega (arith, length-append (tabulate n f) (f n ∷ []), length-tab n)

  tab-at : (n i : ℕ) → i < n → get_or (tabulate n f) i 0 ≡ f i
  unfolding tabulate
  tab-at zero i h = absurd (not-suc-le-zero h)
  tab-at (suc n) i h = go (below i n h) (tab-at n i)
    where
      go : (i ≡ n) ⊎ (i < n) → (i < n → get_or (tabulate n f) i 0 ≡ f i) → get_or (tabulate n f ++ (f n ∷ [])) i 0 ≡ f i
      go (inl e) r = rw e (rw add-zero at (get_d_past (tabulate n f) (f n ∷ []) n 0 (length-tab n)))
      go (inr k) r = get_or-append (tabulate n f) (f n ∷ []) 0 i (omega (arith, length-tab n)) ∙ r k

-- ---- a word behind what was written, and one before it

set_behind : (vs x : List ℕ) (at i a : ℕ) → length vs ≡ i → set (sets x at vs) (at + i) a ≡ sets x at (vs ++ (a ∷ []))
set_behind vs x at i a e = rw (← e) (sym (sets_append vs (a ∷ []) x at))

set_before : (vs x : List ℕ) (at i a : ℕ) → i < at → set (sets x at vs) i a ≡ sets (set x i a) at vs
set_before vs x at i a h = sets_comm (a ∷ []) vs x i at (omega arith)

-- ---- three runs

module _ (n : ℕ) (f : ℕ → Entry) (x : List ℕ) where
  abbrev offsets : ℕ → List ℕ
  offsets i = tabulate i (λ j. (f j).offset)

  abbrev lengths : ℕ → List ℕ
  lengths i = tabulate i (λ j. (f j).length)

  abbrev flags : ℕ → List ℕ
  flags i = tabulate i (λ j. (f j).flags)

  -- the first i entries are three writes
  three : (i : ℕ) → i ≤ n → put_entries n f i x ≡ sets (sets (sets x 0 (offsets i)) n (lengths i)) (n + n) (flags i)
  unfolding put_entries put_entry tabulate
  three zero h = refl
  three (suc i) h =
      rw (
        three i (omega arith),
        set_before (flags i) (sets (sets x 0 (offsets i)) n (lengths i)) (n + n) i (f i).offset (omega arith),
        set_before (lengths i) (sets x 0 (offsets i)) n i (f i).offset h,
        set_before (flags i) (sets (set (sets x 0 (offsets i)) i (f i).offset) n (lengths i)) (n + n) (n + i) (f i).length (omega arith),
        set_behind (lengths i) (set (sets x 0 (offsets i)) i (f i).offset) n i (f i).length (length-tab (λ j. (f j).length) i),
        set_behind (flags i)
            (sets (set (sets x 0 (offsets i)) i (f i).offset) n (lengths i ++ ((f i).length ∷ []))) (n + n) i (f i).flags
            (length-tab (λ j. (f j).flags) i),
      )
      (ap (λ (y : List ℕ). sets (sets y n (lengths i ++ ((f i).length ∷ []))) (n + n) (flags i ++ ((f i).flags ∷ [])))
      (rw zero-add at (set_behind (offsets i) x 0 i (f i).offset (length-tab (λ j. (f j).offset) i))))

  -- all of them are one write
  pub all_put : put_entries n f n x ≡ sets x 0 (runs n f)
  unfolding runs
  all_put =
      three n (omega arith)
      ∙ rw (
        sets_append (offsets n) (lengths n ++ flags n) x 0,
        sets_append (lengths n) (flags n) (sets x 0 (offsets n)) (0 + length (offsets n)),
        length-tab (λ j. (f j).offset) n,
        length-tab (λ j. (f j).length) n,
        zero-add,
      )

  pub length_runs : length (runs n f) ≡ words_for n
  unfolding runs
  length_runs =
      omega (
        arith,
        length-append (offsets n) (lengths n ++ flags n),
        length-append (lengths n) (flags n),
        length-tab (λ j. (f j).offset) n,
        length-tab (λ j. (f j).length) n,
        length-tab (λ j. (f j).flags) n,
      )

  -- ---- read, run by run

  first : (i : ℕ) → i < n → get_or (runs n f) i 0 ≡ (f i).offset
  unfolding runs
  first i k =
      get_or-append (offsets n) (lengths n ++ flags n) 0 i (omega (arith, length-tab (λ j. (f j).offset) n))
      ∙ tab-at (λ j. (f j).offset) n i k

  second : (i : ℕ) → i < n → get_or (runs n f) (n + i) 0 ≡ (f i).length
  unfolding runs
  second i k =
      get_d_past (offsets n) (lengths n ++ flags n) n i (length-tab (λ j. (f j).offset) n)
      ∙ get_or-append (lengths n) (flags n) 0 i (omega (arith, length-tab (λ j. (f j).length) n))
      ∙ tab-at (λ j. (f j).length) n i k

  third : (i : ℕ) → i < n → get_or (runs n f) (n + n + i) 0 ≡ (f i).flags
  unfolding runs
  third i k =
      rw add_assoc
      (get_d_past (offsets n) (lengths n ++ flags n) n (n + i) (length-tab (λ j. (f j).offset) n)
      ∙ get_d_past (lengths n) (flags n) n i (length-tab (λ j. (f j).length) n)
      ∙ tab-at (λ j. (f j).flags) n i k)

  -- an entry of the runs that were written is the one that went in
  pub read_back : words_for n ≤ length x → (i : ℕ) → i < n → entry_in (sets x 0 (runs n f)) n i ≡ f i
  unfolding entry_in
  read_back h i k =
      let at : (j : ℕ) → j < words_for n → get_or (sets x 0 (runs n f)) j 0 ≡ get_or (runs n f) j 0
      = λ j g. rw zero-add at (sets_in (runs n f) x 0 j (omega (arith, length_runs)) (omega (arith, length_runs))) in
      rw (at i (omega arith), at (n + i) (omega arith), at (n + n + i) (omega arith), first i k, second i k, third i k)

  -- ---- one entry more

  pub put-none : x ≡ put_entries n f 0 x
  unfolding put_entries
  put-none = refl

  pub put_next : (i : ℕ) (y z : List ℕ) → y ≡ put_entries n f i x → z ≡ put_entry n i (f i) y → z ≡ put_entries n f (i + 1) x
  unfolding put_entries
  put_next i y z e g = rw (add-one, ← e) g
