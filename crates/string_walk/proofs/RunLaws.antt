-- The pass over the kinds: each run follows the one before it, and an id's flag and rank are those of the run that covers it.
use Rattle.std.specs.Prelude.{None, Some}
use mathlib.Core.Path.{◌≡◌, refl, sym, ◌∙◌, ap, subst, subst⁻¹}
use mathlib.Core.Bool.{Bool, true, false, not}
use mathlib.Core.Logic.{inl, inr}
use mathlib.Core.List.{List}
use Prim.Native.Nat.{ℕ, zero, suc, ◌+◌, ◌-◌, ◌*◌, ◌≤◌, ◌<◌}
use native.Mathlib.Numerals.{add-one}
use native.Mathlib.Omega.{arith}
use borrow.Author.Tests.{not-true, not-false}
use Rattle.bits.specs.Bytes.{word_at}
use Rattle.bits.specs.Choice.{pick, sum_below}
use Rattle.bits.proofs.TestLaws.{below_or, sum_le}
use Rattle.format.specs.Table.{if_set}
use Rattle.image.specs.Sections.{kinds_in}
use Rattle.image.specs.Kinds.{kind_in, run_of, is_identifier_run, identifier_run, covered, identified, is_identifier, rank_of}
use Rattle.image.proofs.KindLaws.{covered_next, identified_next, flag_in_run, rank_in_run_lem}
use Rattle.sections.specs.declared.Places.{Places}
use Rattle.sections.specs.Places.{Placed, Laid}
use Rattle.sections.proofs.SectionLaws.{Sectioned, sectioned}
use Rattle.string_walk.specs.declared.Run.{Run}
use Rattle.string_walk.specs.Records.{rank_in}
use Rattle.string_walk.specs.Runs.{run_at, start_at, rank_in_run, RunOf, Reaches}

set-pick : (b : Bool) (n : ℕ) → if_set b n ≡ pick b n 0
set-pick true n = refl
set-pick false n = refl

-- ---- the rank of an id by its run

module _ (r : Run) (id : ℕ) where
  pub plain_run : not r.identifier ≡ true → None ≡ rank_in_run r id
  plain_run h = rw (not-true r.identifier h)

  pub identifier_run_lem : not r.identifier ≡ false → Some (r.identifiers - (r.end - id)) ≡ rank_in_run r id
  identifier_run_lem h = rw (not-false r.identifier h)

-- ---- a run among kind words

module _ (w : ℕ → ℕ) where
  covered_le : (k n : ℕ) → k ≤ n → covered w k ≤ covered w n
  unfolding covered
  covered_le k n h = sum_le (λ j. run_of (w j)) k n h

  identified-le : (k n : ℕ) → k ≤ n → identified w k ≤ identified w n
  unfolding identified
  identified-le k n h = sum_le (λ j. identifier_run (w j)) k n h

  -- what the last of the first c kinds says of them all
  pub record Known (c : ℕ) (r : Run) : Type 0 where
    pub end : r.end ≡ covered w c
    pub identifiers : r.identifiers ≡ identified w c

  known : (c : ℕ) → Known c (run_at w c)
  unfolding run_at covered identified sum_below
  known zero = record { end = refl; identifiers = refl }
  known (suc c) = record { end = refl; identifiers = refl }

-- ---- in an image

module _ (p : Places) (s : List ℕ) (h : Placed p s) where
  abbrev words : ℕ → ℕ
  words = kind_in p.layout s

  pub kind_is : (k x a : ℕ) → x ≡ word_at s a → a ≡ p.kinds_at + k * 4 → x ≡ kind_in p.layout s k
  unfolding kind_in
  kind_is k x a e f = e ∙ ap (λ (b : ℕ). word_at s b) (f ∙ ap (λ (b : ℕ). b + k * 4) (sectioned p s h).kinds_from)

  -- a run that no kind came before
  pub first_run_of : (r : Run) → ((w : ℕ → ℕ) → r ≡ run_at w 0) → RunOf p s r × ((id : ℕ) → Reaches p s r id)
  unfolding run_at
  first_run_of r e =
      let c : r.count ≡ 0 = ap (λ (y : Run). y.count) (e words) in
      (record { is = e words ∙ ap (run_at words) (sym c); most = omega arith }, λ id. rw c (omega arith))

  -- ---- the ids of a run

  -- what it says of each: the flag and, of an identifier, the rank
  abbrev Says : Run → ℕ → Type 0
  Says y id =
      (y.identifier ≡ is_identifier p.layout s id)
      × (y.identifier ≡ true → rank_of p.layout s id + (y.end - id) ≡ y.identifiers)

  says : (c : ℕ) → c ≤ kinds_in s → (id : ℕ) → start_at words c ≤ id → id < (run_at words c).end → Says (run_at words c) id
  unfolding run_at is_identifier rank_of
  says zero m id b d = absurd (omega arith)
  says (suc c) m id b d =
      let e : covered words c + (id - covered words c) ≡ id = omega arith in
      let ends : covered words (suc c) ≡ covered words c + run_of (words c) = covered_next words c in
      let rank : rank_of p.layout s id ≡ identified words c + pick (is_identifier_run (words c)) (id - covered words c) 0
      = rw e at (rank_in_run_lem words (kinds_in s) c (id - covered words c) m (omega (arith, ends))) in (
        sym (flag_in_run words (kinds_in s) c id m b (omega (arith, ends))),
        λ t.
            let more : identified words (suc c) ≡ identified words c + run_of (words c) = identified_next words c ∙ rw t in
            let own : rank_of p.layout s id ≡ identified words c + (id - covered words c) = rank ∙ rw t in
            omega (arith, more, own, ends, b, d),
      )

-- a run of an image covers id
pub record Covers (p : Places) (s : List ℕ) (r : Run) (id : ℕ) : Type 0 where
  pub placed : Placed p s
  pub run : RunOf p s r
  pub reached : Reaches p s r id
  pub ends : id < r.end

module _ (p : Places) (s : List ℕ) (r : Run) (id : ℕ) (h : Covers p s r id) where
  says_of : Says p s h.placed r id
  says_of =
      subst⁻¹ (λ (y : Run). Says p s h.placed y id) h.run.is
      (says p s h.placed r.count h.run.most id h.reached (subst (λ (y : Run). id < y.end) h.run.is h.ends))

  -- those of an identifier's run from the id on are among all up to its end
  pub rank_most : r.identifier ≡ true → r.end - id ≤ r.identifiers
  rank_most t = omega (arith, says_of.1 t)

  pub rank_is : rank_in_run r id ≡ rank_in p.layout s id
  unfolding rank_in
  rank_is = go r.identifier says_of.0 says_of.1
    where
      go : (b : Bool) → b ≡ is_identifier p.layout s id
          → (b ≡ true → rank_of p.layout s id + (r.end - id) ≡ r.identifiers)
          → pick b (Some (r.identifiers - (r.end - id))) None
          ≡ pick (is_identifier p.layout s id) (Some (rank_of p.layout s id)) None
      go true e f =
          let g : r.identifiers - (r.end - id) ≡ rank_of p.layout s id = omega (arith, f refl) in
          rw (← e, g)
      go false e f = rw (← e)

-- ---- the runs of an admitted image

-- a run of an admitted image, or the start of a pass over its runs
pub record RunIn (p : Places) (s : List ℕ) (r : Run) : Type 0 where
  pub laid : Laid p s
  pub run : RunOf p s r

-- kind k was read: its word x covers n ids, and says whether they are identifiers
pub record KindRead (p : Places) (s : List ℕ) (k x n : ℕ) (f : Bool) : Type 0 where
  pub word : x ≡ kind_in p.layout s k
  pub covers : n ≡ run_of x
  pub flag : f ≡ is_identifier_run x

module _ (p : Places) (s : List ℕ) (r : Run) (h : RunIn p s r) where
  abbrev kinds : ℕ → ℕ
  kinds = kind_in p.layout s

  known_of : Known kinds r.count r
  known_of = subst⁻¹ (λ (y : Run). Known kinds r.count y) h.run.is (known kinds r.count)

  -- behind a run that ends at or before an id there is another
  pub more_runs : (id : ℕ) → id < p.strings → r.end ≤ id → r.count < p.kinds
  more_runs id b d =
      let z : Sectioned p s = sectioned p s h.laid.placed in
      let k : Known kinds r.count r = known_of in
      elim (below_or r.count (kinds_in s)) [
        | inl l ↦ omega arith
        | inr l ↦ absurd (omega (arith, h.laid.admitted.covers, covered_le kinds (kinds_in s) r.count l))
      ]

  module _ (m : r.count < p.kinds) where
    -- it ends within the ids, and up to its end there are no more identifiers than all
    pub next_ends : (r.end + run_of (kinds r.count) ≤ p.strings) × (identified kinds (suc r.count) ≤ p.identifiers)
    next_ends =
        let z : Sectioned p s = sectioned p s h.laid.placed in
        let k : Known kinds r.count r = known_of in (
          omega (
            arith,
            h.laid.admitted.covers,
            covered_next kinds r.count,
            covered_le kinds (suc r.count) (kinds_in s) (omega arith),
          ),
          omega (arith, h.laid.admitted.identifiers, identified-le kinds (suc r.count) (kinds_in s) (omega arith)),
        )

    -- and starts where this one ends
    pub next_reaches : (q : Run) → q.count ≡ r.count + 1 → (id : ℕ) → r.end ≤ id → Reaches p s q id
    next_reaches q e id b =
        let f : q.count ≡ suc r.count = rw add-one at e in
        rw f (omega (arith, known_of.end))

    pub next_run_of : (q : Run) → q ≡ run_at kinds (r.count + 1) → RunOf p s q
    unfolding run_at
    next_run_of q e =
        let z : Sectioned p s = sectioned p s h.laid.placed in
        let f : q.count ≡ suc r.count = ap (λ (y : Run). y.count) (rw add-one at e) in
        record { is = rw add-one at e ∙ ap (run_at kinds) (sym f); most = omega arith }

  -- the identifiers of the next run
  pub next_more : (x n b : ℕ) (f : Bool) → KindRead p s r.count x n f → b ≡ if_set f n
      → r.identifiers + b ≡ identified kinds (suc r.count)
  next_more x n b f w eb =
      rw (known_of.identifiers, eb, set-pick f n, w.flag, w.covers, w.word) (sym (identified_next kinds r.count))

  pub next_is : (x n b : ℕ) (f : Bool) → KindRead p s r.count x n f → b ≡ if_set f n
      → record { count = r.count + 1; end = r.end + n; identifier = f; identifiers = r.identifiers + b } ≡ run_at kinds (r.count + 1)
  unfolding run_at
  next_is x n b f w eb =
      let k : Known kinds r.count r = known_of in
      let e : r.end + n ≡ covered kinds (suc r.count)
      = rw (k.end, w.covers, w.word) (sym (covered_next kinds r.count)) in
      rw (add-one, e, next_more x n b f w eb, w.flag, w.word)
