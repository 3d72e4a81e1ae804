-- The facts of many strings: each string of the pass adds its own behind those of the strings before it.
use Rattle.std.specs.Prelude.{Err, Ok, Result}
use mathlib.Core.Path.{◌≡◌, refl, sym, ◌∙◌, ap}
use mathlib.Core.Logic.{◌⊎◌, inl, inr}
use mathlib.Core.List.{List}
use Prim.Native.Nat.{ℕ, zero, suc, ◌+◌, ◌-◌, ◌*◌, ◌/◌, ◌≤◌, ◌<◌}
use native.Mathlib.Numerals.{add-one}
use native.Mathlib.Omega.{arith}
use borrow.Author.Tests.{lt-ltb, le-ltb}
use lib.Dec.{ltb}
use lib.ListN.{length, length-append}
use lib.Seq.{sets}
use Rattle.bits.specs.Choice.{pick}
use Rattle.bits.specs.Outcome.{made, Answers}
use Rattle.bits.proofs.OutcomeLaws.{told_all, refused_outcome, found_read}
use Rattle.bits.proofs.TestLaws.{below_or}
use Rattle.bits.proofs.WriteLaws.{sets_then}
use Rattle.format.specs.declared.Layout.{Layout}
use Rattle.image.specs.Sections.{strings_in}
use Rattle.image.specs.Admission.{refusal}
use Rattle.sections.specs.declared.Places.{Places}
use Rattle.sections.specs.Places.{Placed}
use Rattle.admission.specs.Admission.{admission}
use Rattle.admission.proofs.AnswerLaws.{refused_is, laid-is, laid_layout}
use Rattle.string_tables.specs.Strings.{as_place}
use Rattle.string_walk.specs.declared.Counts.{Counts}
use Rattle.string_walk.specs.declared.Cursor.{Cursor}
use Rattle.string_walk.specs.declared.Visited.{Visited}
use Rattle.string_walk.specs.Places.{counts_of, VisitedOf}
use Rattle.string_walk.specs.Records.{is_ranked}
use Rattle.string_walk.proofs.RecordLaws.{record_is}
use Rattle.string_walk.proofs.WalkLaws.{pass_visits}
use Rattle.reader.proofs.ReadingLaws.{counts}
use Rattle.facts.proofs.FactLaws.{parts_are}
use Rattle.facts.specs.Facts.{facts_of_parts, facts_of_string, string_fact_count, facts_from, strings_told, string_facts_from}

-- ---- one string of the pass

-- a string was visited, and its record and its counts make its facts
pub record Row (p : Places) (s : List ℕ) (c : Cursor) (r : Visited) (n : Counts) (row : List ℕ) : Type 0 where
  pub placed : Placed p s
  pub visited : VisitedOf p s c r
  pub counts : n ≡ counts_of r.next
  pub facts : row ≡ facts_of_parts r.string.start (as_place r.string.place) (is_ranked r.string.rank) n

module _ (p : Places) (s : List ℕ) (c : Cursor) (r : Visited) (n : Counts) (row : List ℕ) (h : Row p s c r n row) where
  -- they are those of locating it by itself
  pub row_is : row ≡ facts_of_string p.layout s c.id
  row_is =
      h.facts ∙ parts_are p.layout s c.id r.string n (record_is p s h.placed c.id r.string h.visited.string)
      (pass_visits p s c r h.visited n h.counts)

-- ---- behind those of the strings before it

module _ (l : Layout) (s : List ℕ) (id : ℕ) where
  pub facts_length : (n : ℕ) → length (facts_from l s id n) ≡ n * string_fact_count
  unfolding facts_from facts_of_string
  facts_length zero = refl
  facts_length (suc n) = omega (arith, length-append (facts_from l s id n) (facts_of_string l s (id + n)), facts_length n)

  module _ (old : List ℕ) where
    pub facts_none : old ≡ sets old 0 (facts_from l s id 0)
    unfolding facts_from
    facts_none = refl

    pub facts_next : (k i : ℕ) (out next : List ℕ) → out ≡ sets old 0 (facts_from l s id k) → i ≡ id + k
        → next ≡ sets out (k * string_fact_count) (facts_of_string l s i) → next ≡ sets old 0 (facts_from l s id (k + 1))
    unfolding facts_from
    facts_next k i out next e f g =
        sets_then old out next (facts_from l s id k) (facts_of_string l s (id + k)) 0 (k * string_fact_count) e
        (omega (arith, facts_length k))
        (g ∙ ap (λ (j : ℕ). sets out (k * string_fact_count) (facts_of_string l s j)) f)
        ∙ rw (add-one k)

-- ---- as many as there are, and as there is room for

-- of so many that are left
abbrev pub least_of : ℕ → ℕ → ℕ
least_of room left = pick (ltb (room / string_fact_count) left) (room / string_fact_count) left

pub least_told : (n room left : ℕ) → n ≡ least_of room left → (n * string_fact_count ≤ room) × (n ≤ left)
least_told n room left e = go (below_or rows left)
  where
    rows : ℕ
    rows = room / string_fact_count

    go : (rows < left) ⊎ (left ≤ rows) → (n * string_fact_count ≤ room) × (n ≤ left)
    go (inl h) = let f : n ≡ rows = e ∙ rw (lt-ltb rows left h) in (omega arith, omega arith)
    go (inr h) = let f : n ≡ left = e ∙ rw (le-ltb rows left h) in (omega arith, omega arith)

pub told_most : (room count id : ℕ) → strings_told room count id ≤ count
unfolding strings_told
told_most room count id = omega (arith, (least_told (strings_told room count id) room (count - id) refl).1)

told_none : (room count id : ℕ) → count ≤ id → strings_told room count id ≡ 0
unfolding strings_told
told_none room count id h =
    let z : count - id ≡ 0 = omega arith in
    rw (z, le-ltb (room / string_fact_count) 0 (omega arith))

-- ---- what is answered

module _ (l : Layout) (s : List ℕ) (id room : ℕ) (old : List ℕ) where
  pub from_refused : (r : Result Places ℕ) → r ≡ admission l s → (k : ℕ) → r ≡ Err k
      → Answers (string_facts_from room l s id) (Err k) old old
  unfolding string_facts_from
  from_refused r e k f =
      let (z, h) = refused_is l s r e k f in
      refused_outcome (refusal l s) k _ (omega arith, z) old

  module _ (p : Places) (f : admission l s ≡ Ok p) where
    count_is : p.strings ≡ strings_in s
    count_is = (counts l s p f).0

    -- the facts of n strings
    from_told : (n : ℕ) → n ≡ strings_told room (strings_in s) id → (exit : List ℕ)
        → Answers (made (facts_from l s id n)) (Ok (n * string_fact_count)) old exit
        → Answers (string_facts_from room l s id) (Ok (n * string_fact_count)) old exit
    unfolding string_facts_from
    from_told n e exit w =
        let admitted : refusal l s ≡ 0 = (laid-is l s (admission l s) refl p f).0 in
        found_read (refusal l s) (facts_from l s id n) _ (λ o. o) (Ok (n * string_fact_count)) old exit admitted
        (ap (facts_from l s id) e) w

    -- no such string
    pub from_none : p.strings ≤ id → Answers (string_facts_from room l s id) (Ok 0) old old
    unfolding facts_from
    from_none h =
        from_told 0 (sym (told_none room (strings_in s) id (omega (arith, count_is)))) old (refl, refl)

    pub from_strings : (n i : ℕ) → n ≡ least_of room (p.strings - id) → i ≡ id
        → room ≡ length old
        → (exit : List ℕ) → exit ≡ sets old 0 (facts_from p.layout s i n)
        → Answers (string_facts_from room l s id) (Ok (n * string_fact_count)) old exit
    unfolding strings_told
    from_strings n i e g m exit w =
        let t : exit ≡ sets old 0 (facts_from l s id n) = w ∙ rw (laid_layout l s (admission l s) refl p f, g) in
        let fits : length (facts_from l s id n) ≤ length old
        = omega (arith, facts_length l s id n, (least_told n room (p.strings - id) e).0) in
        from_told n (e ∙ rw count_is) exit
        (rw (← facts_length l s id n) (told_all (facts_from l s id n) old exit fits t))
