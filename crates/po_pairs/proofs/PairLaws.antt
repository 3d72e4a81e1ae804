-- Msgids given twice, pairs in lent room, and what the reader answers.
use mathlib.Core.Path.{◌≡◌, refl, ap, sym, ◌∙◌}
use mathlib.Core.Bool.{Bool, true, false, not}
use mathlib.Core.Logic.{inl, inr}
use mathlib.Core.List.{List, [], ◌∷◌, map}
use Prim.Native.Nat.{ℕ, zero, suc, ◌+◌, ◌/◌, ◌%◌, ◌<◌}
use native.Mathlib.Nat.{not-suc-le-zero}
use native.Mathlib.Omega.{arith}
use lib.ListN.{length, get_or, length-map}
use Rattle.std.specs.Prelude.{Option, Some, None}
use Rattle.bits.specs.Choice.{pick, both}
use Rattle.bits.proofs.TestLaws.{which, all_at, all_of, all_fails, both_1, both-none, below_or}
use Rattle.bits.proofs.PassLaws.{all_same}
use Rattle.format.specs.Hash.{hash_of}
use Rattle.footer.specs.Footer.{same}
use Rattle.footer.proofs.SameLaws.{same-is, same_self}
use Rattle.utf.specs.Utf8.{is_utf8, utf16}
use Rattle.po_lines.specs.Lines.{is_ended}
use Rattle.po_lines.specs.Kinds.{read_lines}
use Rattle.po_pairs.specs.declared.Stand.TheVariants.{Between}
use Rattle.po_pairs.specs.Order.{stand_after, ends_well}
use Rattle.po_pairs.specs.Pairs.{values_in, Pair, paired, unpaired, msgid_of, msgstr_of, is_new, all_new, different, id_of, in_subset}
use Rattle.po_pairs.specs.Pairs.{outside, pairs, read_file}
use Rattle.po_pairs.specs.Held.{Held, Unread, HeldPairs, id_in, bucket_in, ChainedPairs, pairs_or, ReadAs}
use Rattle.po_pairs.proofs.OrderLaws.{never, all_paired}

-- ---- a value among those before it

module _ (v : ℕ → List ℕ) (q : ℕ) where
  pub given_before : (j : ℕ) → j < q → same (v j) (v q) ≡ true → false ≡ is_new v q
  given_before j h e = sym (all_fails (λ i. not (same (v i) (v q))) q j h (rw e))

  pub not_before : ((j : ℕ) → j < q → v j ≡ v q → ⊥) → true ≡ is_new v q
  not_before n =
      sym (all_of (λ i. not (same (v i) (v q))) q (λ i h.
      elim (which (same (v i) (v q))) [
        | inl e ↦ absurd (n i h (same-is (v i) (v q) e))
        | inr e ↦ rw e
      ]))

-- ---- chains by msgids

-- msgid j is the same as msgid q
abbrev pub SameId : List ℕ → List ℕ → ℕ → ℕ → Type 0
SameId text ends q j = id_in text ends j ≡ id_in text ends q

-- then they have one bucket
pub one_bucket : (text ends : List ℕ) (m q j : ℕ) → j < q → SameId text ends q j
    → bucket_in text ends m j ≡ bucket_in text ends m q
one_bucket text ends m q j h e = ap (λ (v : List ℕ). hash_of (utf16 v) % m) e

pub other_id : (text ends : List ℕ) (q j : ℕ) (r : Bool) → r ≡ same (id_in text ends j) (id_in text ends q) → r ≡ false
    → SameId text ends q j → ⊥
other_id text ends q j r e h s =
    let t : same (id_in text ends j) (id_in text ends q) ≡ true = rw s (same_self (id_in text ends q)) in
    never (sym h ∙ e ∙ t)

-- ---- values two by two

pub pairs_count : (vs : List (List ℕ)) → length (paired vs) ≡ length vs / 2
unfolding paired
pairs_count [] = refl
pairs_count (a ∷ []) = refl
pairs_count (a ∷ b ∷ vs) = omega (arith, pairs_count vs)

-- msgid q is value q + q, and its msgstr the next one
pair_at : (vs : List (List ℕ)) (q : ℕ) → q < length (paired vs)
    → (get_or vs (q + q) [] ≡ msgid_of (paired vs) q) × (get_or vs (suc (q + q)) [] ≡ msgstr_of (paired vs) q)
unfolding paired
pair_at [] q h = absurd (not-suc-le-zero h)
pair_at (a ∷ []) q h = absurd (not-suc-le-zero h)
pair_at (a ∷ b ∷ vs) zero h = (refl, refl)
pair_at (a ∷ b ∷ vs) (suc q) h = let e : suc q + suc q ≡ suc (suc (q + q)) = omega arith in rw e (pair_at vs q (omega arith))

pub id-at : (ps : List Pair) (q : ℕ) → q < length ps → get_or (map id_of ps) q [] ≡ msgid_of ps q
id-at [] q h = absurd (not-suc-le-zero h)
id-at (p ∷ ps) zero h = refl
id-at (p ∷ ps) (suc q) h = id-at ps q (omega arith)

module _ (text ends : List ℕ) (vs : List (List ℕ)) (g : Held text ends vs) where
  pub pairs_held : HeldPairs text ends (paired vs)
  pairs_held =
      record {
        many = omega (arith, g.many, pairs_count vs);
        within = λ j h. g.within j (omega (arith, pairs_count vs));
        msgids = λ q h. g.value (q + q) (omega (arith, pairs_count vs)) ∙ (pair_at vs q h).0;
        msgstrs = λ q h. g.value (suc (q + q)) (omega (arith, pairs_count vs)) ∙ (pair_at vs q h).1;
      }

  -- whether a msgid is given twice, judged where the values stand
  pub new_held : all_new (id_in text ends) (length vs / 2) ≡ different (map id_of (paired vs))
  unfolding different
  new_held =
      let ids = map id_of (paired vs) in
      let same_id : (q : ℕ) → q < length (paired vs) → id_in text ends q ≡ get_or ids q []
      = λ q h. pairs_held.msgids q h ∙ sym (id-at (paired vs) q h) in
      rw (← pairs_count vs, length-map (paired vs) id_of)
      (all_same (is_new (id_in text ends)) (is_new (λ j. get_or ids j [])) (length (paired vs)) (λ i h.
      all_same (λ j. not (same (id_in text ends j) (id_in text ends i))) (λ j. not (same (get_or ids j []) (get_or ids i []))) i
      (λ j k. rw (same_id i h, same_id j (omega arith)))))

pub no_pairs : {A : Type 0} (k : ℕ) → None ≡ Some k → A
no_pairs k e = absurd (let z : ◌≡◌ {A = ℕ} 0 1 = cc in omega arith)

-- ---- what a file says, in the order of the tests

module _ (s : List ℕ) where
  pub not_utf8_lem : is_utf8 s ≡ false → read_file s ≡ outside
  unfolding read_file in_subset
  not_utf8_lem h = rw h

  pub not_ended_lem : is_ended s ≡ false → read_file s ≡ outside
  unfolding read_file in_subset
  not_ended_lem h = rw (h, both-none (is_utf8 s))

  pub unread : Unread s → read_file s ≡ outside
  unfolding read_file in_subset
  unread (inl h) = rw (h, both-none (is_utf8 s))
  unread (inr h) = rw (h, both-none (is_ended s), both-none (is_utf8 s))

  module _ (u : is_utf8 s ≡ true) (e : is_ended s ≡ true) (w : ends_well (stand_after Between (read_lines s)) ≡ true) where
    file_read : read_file s ≡ pick (different (map id_of (paired (values_in s)))) (pairs (paired (values_in s))) outside
    unfolding read_file in_subset
    file_read = rw (u, e, w)

    module _ (text ends work : List ℕ) (g : Held text ends (values_in s)) (n : ℕ) (c : n ≡ length (values_in s)) (r : Option ℕ)
        (p : r ≡ pairs_or (all_new (id_in text ends) (n / 2)) (n / 2))
        (k : r ≡ Some (n / 2) → ChainedPairs text ends (length ends) (n / 2) work) where
      pub file-answered : ReadAs (read_file s) r text ends work
      file-answered =
          let count : n / 2 ≡ length (paired (values_in s)) = rw c (sym (pairs_count (values_in s))) in
          let new : all_new (id_in text ends) (n / 2) ≡ different (map id_of (paired (values_in s)))
          = rw c (new_held text ends (values_in s) g) in
          rw file_read (go (different (map id_of (paired (values_in s)))) count (rw new at p) (rw count at k))
        where
          go : (d : Bool) → n / 2 ≡ length (paired (values_in s)) → r ≡ pairs_or d (n / 2)
              → (r ≡ Some (length (paired (values_in s)))
              → ChainedPairs text ends (length ends) (length (paired (values_in s))) work)
              → ReadAs (pick d (pairs (paired (values_in s))) outside) r text ends work
          go true count e f =
              let a : r ≡ Some (length (paired (values_in s))) = rw count at e in (a, pairs_held text ends (values_in s) g, f a)
          go false count e f = e

-- the values of a file in the subset are pairs: nothing is lost where they are taken two by two
pub all_pairs : (s : List ℕ) → in_subset s ≡ true → unpaired (paired (values_in s)) ≡ values_in s
unfolding in_subset values_in
all_pairs s h =
    let w = ends_well (stand_after Between (read_lines s)) in
    all_paired (read_lines s) (both_1 (is_ended s) w (both_1 (is_utf8 s) (both (is_ended s) w) h))

-- a file that is read: it is in the subset, its msgids differ, and these are its pairs
pub read_is : (s : List ℕ) (ps : List Pair) → read_file s ≡ pairs ps
    → (in_subset s ≡ true) × (different (map id_of ps) ≡ true) × (ps ≡ paired (values_in s))
unfolding read_file
read_is s ps e = go (in_subset s) refl (different (map id_of (paired (values_in s)))) refl e
  where
    go : (i : Bool) → in_subset s ≡ i → (d : Bool) → different (map id_of (paired (values_in s))) ≡ d
        → pick (both i d) (pairs (paired (values_in s))) outside ≡ pairs ps
        → (i ≡ true) × (different (map id_of ps) ≡ true) × (ps ≡ paired (values_in s))
    go true i true d e = let q : ps ≡ paired (values_in s) = cc in (refl, rw q d, q)
    go true i false d e = absurd (let z : ◌≡◌ {A = ℕ} 0 1 = cc in omega arith)
    go false i d _ e = absurd (let z : ◌≡◌ {A = ℕ} 0 1 = cc in omega arith)

-- "a msgid given twice": two pairs with one msgid are one pair
module _ (s : List ℕ) (ps : List Pair) (e : read_file s ≡ pairs ps) where
  earlier : (i j : ℕ) → i < j → j < length ps → msgid_of ps i ≡ msgid_of ps j → ⊥
  unfolding different
  earlier i j h k q =
      let d : all_new (λ n. get_or (map id_of ps) n []) (length (map id_of ps)) ≡ true = (read_is s ps e).1 in
      let new = all_at (is_new (λ n. get_or (map id_of ps) n [])) (length (map id_of ps)) j d (rw (length-map ps id_of) k) in
      let f : not (same (get_or (map id_of ps) i []) (get_or (map id_of ps) j [])) ≡ true
      = all_at (λ n. not (same (get_or (map id_of ps) n []) (get_or (map id_of ps) j []))) j i new h in
      let t : not (same (get_or (map id_of ps) i []) (get_or (map id_of ps) j [])) ≡ false
      = rw (id-at ps i (omega arith), id-at ps j k, q, same_self (msgid_of ps j)) in
      never (sym t ∙ f)

  pub one_pair : (i j : ℕ) → i < length ps → j < length ps → msgid_of ps i ≡ msgid_of ps j → i ≡ j
  one_pair i j h k q =
      elim (below_or i j) [
        | inl l ↦ absurd (earlier i j l k q)
        | inr l ↦ elim (below_or j i) [
          | inl m ↦ absurd (earlier j i m h (sym q))
          | inr m ↦ omega arith
        ]
      ]
