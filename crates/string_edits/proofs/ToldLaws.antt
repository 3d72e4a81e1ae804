-- Edits in either form: what each string gets, and which edit comes next.
use mathlib.Core.Path.{◌≡◌, refl, sym, ◌∙◌}
use mathlib.Core.Bool.{true}
use mathlib.Core.Logic.{inl, inr}
use mathlib.Core.Option.{none, some}
use mathlib.Core.List.{List}
use Prim.Native.Nat.{ℕ, zero, suc, ◌+◌, ◌-◌, ◌≤◌, ◌<◌}
use native.Mathlib.Omega.{arith}
use borrow.Author.Tests.{lt-ltb}
use lib.ListN.{length, get_or, get_or-eq_default}
use Rattle.bits.proofs.TestLaws.{below, below_or}
use Rattle.string_edits.specs.declared.Form.{Form}
use Rattle.string_edits.specs.declared.Form.TheVariants.{Ids, Marks}
use Rattle.string_edits.specs.declared.Next.{Next}
use Rattle.string_edits.specs.Lists.{value_in, edit_in, all_differ, Within, NearestOf}
use Rattle.string_edits.specs.Told.{Told, told, tells_by, Tells, marked, values_by, values_in, Listed, NextOf, coming_in, Coming}
use Rattle.string_edits.proofs.ListLaws.{IsOne, split-within, differ, values_none, values_at}

-- ---- marks

-- a string with a mark is one of those that have a word
mark_known : (marks : List ℕ) (i j : ℕ) → get_or marks i 0 ≡ suc j → i < length marks
mark_known marks i j e = elim (below_or i (length marks)) [
  | inl h ↦ h
  | inr h ↦ absurd (omega (arith, e, get_or-eq_default marks 0 {n = i} h))
]

-- what a string gets by its mark
module _ (text ends : List ℕ) (mark : ℕ) where
  marked-none : ((j : ℕ) → mark ≡ suc j → ⊥) → marked text ends mark ≡ none
  marked-none h = go mark h
    where
      go : (n : ℕ) → ((j : ℕ) → n ≡ suc j → ⊥) → marked text ends n ≡ none
      go zero h = refl
      go (suc j) h = absurd (h j refl)

  marked-some : (j : ℕ) → mark ≡ suc j → marked text ends mark ≡ some (value_in text ends j)
  marked-some j e = rw e

-- ---- what a string gets

module _ (text ends : List ℕ) (i : ℕ) where
  -- nothing, where no edit is of it
  pub told_none : (edits : Told) → ((j : ℕ) → Tells edits i j → ⊥) → values_in edits text ends i ≡ none
  told_none edits h = go edits.form edits.words h
    where
      go : (form : Form) (words : List ℕ) → ((j : ℕ) → tells_by form words i j → ⊥) → values_by form words text ends i ≡ none
      go Ids ids h = values_none (edit_in ids text ends) i (length ids) (λ j g e. h j (g, e))
      go Marks marks h = marked-none text ends (get_or marks i 0) (λ j e. h j (mark_known marks i j e, e))

  -- the value of the one that is
  pub told-some : (edits : Told) → Listed edits text ends → (j : ℕ) → Tells edits i j
      → values_in edits text ends i ≡ some (value_in text ends j)
  told-some edits ls j t = go edits.form edits.words (ls.one i) t
    where
      go : (form : Form) (words : List ℕ) → ((k n : ℕ) → tells_by form words i k → tells_by form words i n → k ≡ n)
          → tells_by form words i j → values_by form words text ends i ≡ some (value_in text ends j)
      go Ids ids one t =
          values_at (edit_in ids text ends) i (length ids) j t.0 t.1 (λ n g k z. omega (arith, one n j (g, z) t))
      go Marks marks one t = marked-some text ends (get_or marks i 0) j t.1

-- ---- the edit that comes next

-- of a list, the nearest of all
pub next_nearest : (ids : List ℕ) (from k : ℕ) (n : Next) → k ≡ length ids → NearestOf ids from k n
    → NextOf (told Ids ids) from n
next_nearest ids from k n e h = record {
  past = h.past;
  least = λ id j t l. omega (arith, t.1, h.least j (omega (arith, t.0)) (omega (arith, t.1)));
  own = h.own;
}

-- of marks, the first string that has one, where none from `from` on before it has
module _ (marks : List ℕ) (from id : ℕ) (skipped : (i : ℕ) → from ≤ i → i < id → get_or marks i 0 ≡ 0) where
  pub mark_next : (mark : ℕ) → mark ≡ get_or marks id 0 → 0 < mark → id < length marks → from ≤ id
      → NextOf (told Marks marks) from (record { edit = mark - 1; id = id })
  mark_next mark e h k l = record {
    past = l;
    least = λ i j t m. elim (below_or i id) [
      | inl b ↦ absurd (omega (arith, skipped i m b, t.1))
      | inr b ↦ b
    ];
    own = λ b. (k, omega (arith, e));
  }

  -- one further
  pub mark_skip : get_or marks id 0 ≡ 0 → (i : ℕ) → from ≤ i → i < id + 1 → get_or marks i 0 ≡ 0
  mark_skip e i h k = elim (below i id (omega arith)) [ inl q ↦ rw q e | inr g ↦ skipped i h g ]

  pub mark_none : length marks ≤ id → from ≤ 0x100000000 → NextOf (told Marks marks) from (record { edit = 0; id = 0x100000000 })
  mark_none h k = record {
    past = k;
    least = λ i j t m. absurd (omega (arith, skipped i m (omega (arith, t.0)), t.1));
    own = λ b. absurd (omega arith);
  }

module _ (edits : Told) (text ends : List ℕ) (ls : Listed edits text ends) (from : ℕ) (n : Next) (nx : NextOf edits from n) where
  -- the value that comes next stands in the text
  pub coming_within : n.id < 0x100000000 → Within text ends n.edit
  coming_within h = ls.within n.id n.edit (nx.own h)

  pub coming : Coming (values_in edits text ends) (coming_in text ends n) from n.id
  coming = record {
    past = nx.past;
    before = λ i h k. told_none text ends i edits (λ j t. omega (arith, nx.least i j t h));
    at = λ h. rw (lt-ltb n.id 0x100000000 h) (told-some text ends n.id edits ls n.edit (nx.own h));
  }

-- ---- edits that are listed

-- a list that was judged to be one, with different ids
pub listed : (ids text ends : List ℕ) → IsOne ids text ends → all_differ (λ j. get_or ids j 0) (length ids) ≡ true
    → Listed (told Ids ids) text ends
listed ids text ends o d = record {
  within = λ id j t. split-within text ends o.split j (omega (arith, o.many, t.0));
  one = λ id i j t u. differ (λ n. get_or ids n 0) (length ids) d i j t.0 u.0 (t.1 ∙ sym u.1);
}

-- marks of values that stand in the text
pub marks_listed : (marks text ends : List ℕ)
    → ((id j : ℕ) → id < length marks → get_or marks id 0 ≡ suc j → Within text ends j)
    → Listed (told Marks marks) text ends
marks_listed marks text ends w =
    record { within = λ id j t. w id j t.0 t.1; one = λ id i j t u. omega (arith, t.1, u.1) }
