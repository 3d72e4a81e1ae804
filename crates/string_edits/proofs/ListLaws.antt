-- A list of edits as it is lent: what its values are, the nearest edit, and what each string gets.
use mathlib.Core.Path.{◌≡◌, refl, sym}
use mathlib.Core.Bool.{Bool, true, false, not}
use mathlib.Core.Logic.{inl, inr, ◌≢◌}
use mathlib.Core.Option.{none, some}
use mathlib.Core.List.{List}
use Prim.Native.Nat.{ℕ, zero, suc, ◌-◌, ◌≤◌, ◌<◌}
use native.Mathlib.Omega.{arith}
use borrow.Author.Tests.{le-leb, lt-leb, eq-eqb, ne_eqb, eqb-true, eqb-false, leb-true, not-true}
use lib.Dec.{leb, eqb}
use lib.ListN.{length, get_or, take, drop}
use Rattle.bits.specs.Choice.{both}
use Rattle.bits.proofs.TestLaws.{below, below_or, both_0, both_1, both-none, all_at}
use Rattle.bits.proofs.ByteLaws.{bytes_at-take, length-bytes_at}
use Rattle.string_edits.specs.declared.Next.{Next}
use Rattle.string_edits.specs.Values.{Edit, values_of}
use Rattle.string_edits.specs.Lists.{start_in, value_in, is_split, is_list, is_new, all_differ, Within, NearestOf}

-- ---- where values stand in the text

pub start_first : (ends : List ℕ) (j : ℕ) → j ≡ 0 → 0 ≡ start_in ends j
unfolding start_in
start_first ends j e = rw e

pub start_later : (ends : List ℕ) (j : ℕ) → j ≢ 0 → get_or ends (j - 1) 0 ≡ start_in ends j
unfolding start_in
start_later ends zero h = absurd (h refl)
start_later ends (suc j) h = let e : suc j - 1 ≡ j = omega arith in rw e

-- a part of the text from one end to the next
pub value_part : (text ends : List ℕ) (j a b : ℕ) → Within text ends j → a ≡ start_in ends j → b ≡ start_in ends (suc j)
    → take (b - a) (drop a text) ≡ value_in text ends j
unfolding value_in
value_part text ends j a b w x y =
    rw (x, y) (sym (bytes_at-take text (start_in ends (suc j) - start_in ends j) (start_in ends j) (omega (arith, w.rising, w.end))))

pub length-value : (text ends : List ℕ) (j : ℕ) → length (value_in text ends j) ≡ start_in ends (suc j) - start_in ends j
unfolding value_in
length-value text ends j = length-bytes_at text (start_in ends j) (start_in ends (suc j) - start_in ends j)

-- ---- what is judged

pub split-within : (text ends : List ℕ) → is_split text ends ≡ true → (j : ℕ) → j < length ends → Within text ends j
split-within text ends t j h =
    let a = leb (start_in ends j) (start_in ends (suc j)) in
    let b = leb (start_in ends (suc j)) (length text) in
    let q : both a b ≡ true
    = all_at (λ k. both (leb (start_in ends k) (start_in ends (suc k))) (leb (start_in ends (suc k)) (length text))) (length ends) j t h in
    record {
      known = h;
      rising = leb-true (start_in ends j) (start_in ends (suc j)) (both_0 a b q);
      end = leb-true (start_in ends (suc j)) (length text) (both_1 a b q);
    }

-- each value's ends, one by one, as the code tests them
abbrev pub splits : List ℕ → List ℕ → ℕ → Bool
splits text ends j = both (leb (start_in ends j) (start_in ends (suc j))) (leb (start_in ends (suc j)) (length text))

module _ (text ends : List ℕ) (j : ℕ) where
  pub falls : start_in ends (suc j) < start_in ends j → splits text ends j ≡ false
  falls h = rw (lt-leb (start_in ends j) (start_in ends (suc j)) h)

  pub passes : length text < start_in ends (suc j) → splits text ends j ≡ false
  passes h = rw (lt-leb (start_in ends (suc j)) (length text) h) (both-none (leb (start_in ends j) (start_in ends (suc j))))

  pub stands : start_in ends j ≤ start_in ends (suc j) → start_in ends (suc j) ≤ length text → splits text ends j ≡ true
  stands h k = rw (le-leb (start_in ends j) (start_in ends (suc j)) h, le-leb (start_in ends (suc j)) (length text) k)

-- as many ends as ids, or not
module _ (ids text ends : List ℕ) where
  pub no_list : length ends ≢ length ids → false ≡ is_list ids text ends
  unfolding is_list
  no_list d = rw (ne_eqb (length ends) (length ids) d)

  pub the_list : length ends ≡ length ids → is_split text ends ≡ is_list ids text ends
  unfolding is_list
  the_list e = rw (eq-eqb (length ends) (length ids) e)

-- a list that was judged to be one
pub record IsOne (ids text ends : List ℕ) : Type 0 where
  pub many : length ends ≡ length ids
  pub split : is_split text ends ≡ true

pub is_one : (ids text ends : List ℕ) → is_list ids text ends ≡ true → IsOne ids text ends
unfolding is_list
is_one ids text ends t = record {
  many = eqb-true (length ends) (length ids) (both_0 (eqb (length ends) (length ids)) (is_split text ends) t);
  split = both_1 (eqb (length ends) (length ids)) (is_split text ends) t;
}

-- different numbers of a list have different ids
module _ (ids : ℕ → ℕ) (n : ℕ) (t : all_differ ids n ≡ true) where
  later : (i j : ℕ) → i < j → j < n → ids i ≢ ids j
  later i j h k e =
      eqb-false (ids i) (ids j)
      (not-true (eqb (ids i) (ids j)) (all_at (λ r. not (eqb (ids r) (ids j))) j i (all_at (is_new ids) n j t k) h)) e

  pub differ : (i j : ℕ) → i < n → j < n → ids i ≡ ids j → i ≡ j
  differ i j h k e = elim (below_or i j) [
    | inl l ↦ absurd (later i j l k e)
    | inr l ↦ elim (below_or j i) [ inl g ↦ absurd (later j i g h (sym e)) | inr g ↦ omega arith ]
  ]

-- ---- the nearest edit

pub near_none : (ids : List ℕ) (from : ℕ) → from ≤ 0x100000000 → NearestOf ids from 0 (record { edit = 0; id = 0x100000000 })
near_none ids from h = record { past = h; least = λ j k l. absurd (omega arith); own = λ k. absurd (omega arith) }

module _ (ids : List ℕ) (from j : ℕ) (best : Next) (n : NearestOf ids from j best) where
  pub near_skip : get_or ids j 0 < from → NearestOf ids from (suc j) best
  near_skip h = record {
    past = n.past;
    least = λ i g k. elim (below i j g) [
      | inl e ↦ let z : from ≤ get_or ids j 0 = rw e at k in absurd (omega arith)
      | inr l ↦ n.least i l k
    ];
    own = n.own;
  }

  pub near_keep : best.id ≤ get_or ids j 0 → NearestOf ids from (suc j) best
  near_keep h = record {
    past = n.past;
    least = λ i g k. elim (below i j g) [ inl e ↦ rw e h | inr l ↦ n.least i l k ];
    own = n.own;
  }

  pub near_take : j < length ids → (id : ℕ) → id ≡ get_or ids j 0 → from ≤ id → id < best.id
      → NearestOf ids from (suc j) (record { edit = j; id = id })
  near_take known id e h l = record {
    past = h;
    least = λ i g k. elim (below i j g) [ inl q ↦ rw (q, e) (omega arith) | inr q ↦ omega (arith, n.least i q k) ];
    own = λ g. (known, sym e);
  }

-- ---- what a string gets by a list

module _ (e : ℕ → Edit) (i : ℕ) where
  -- no edit is of it
  pub values_none : (k : ℕ) → ((j : ℕ) → j < k → (e j).id ≢ i) → values_of e k i ≡ none
  unfolding values_of
  values_none zero h = refl
  values_none (suc k) h = rw (ne_eqb i (e k).id (λ z. h k (omega arith) (sym z))) (values_none k (λ j g. h j (omega arith)))

  -- edit j is, and none after it
  pub values_at : (k j : ℕ) → j < k → (e j).id ≡ i → ((n : ℕ) → n < k → j < n → (e n).id ≢ i)
      → values_of e k i ≡ some (e j).value
  unfolding values_of
  values_at zero j h q last = absurd (omega arith)
  values_at (suc k) j h q last = elim (below j k h) [
    | inl z ↦ rw (← z, eq-eqb i (e j).id (sym q))
    | inr g ↦ rw (ne_eqb i (e k).id (λ z. last k (omega arith) g (sym z))) (values_at k j g q (λ n y. last n (omega arith)))
  ]
