-- The answers of the reader: one law for each way out, over the number of a reading by id.
use Rattle.std.specs.Prelude.{Err, Ok, Result}
use mathlib.Core.Path.{◌≡◌, refl, sym, ◌∙◌, ap}
use mathlib.Core.List.{List, [], ◌∷◌, ◌++◌}
use Prim.Native.Nat.{ℕ, ◌≤◌, ◌<◌}
use native.Mathlib.Omega.{arith}
use lib.Dec.{leb, eqb}
use borrow.Author.Tests.{le-leb, lt-leb, leb-false, ne_eqb}
use Rattle.refusals.specs.Numbers as refusals
use Rattle.bits.specs.Choice.{pick, check, judge}
use Rattle.bits.proofs.JudgeLaws.{judge_pass}
use Rattle.format.specs.declared.Layout.{Layout}
use Rattle.image.specs.Sections.{functions_in, strings_in}
use Rattle.image.specs.Functions.{Func, func_of}
use Rattle.image.specs.Admission.{checks, refusal}
use Rattle.sections.specs.declared.Places.{Places}
use Rattle.sections.specs.Places.{places_of}
use Rattle.sections.specs.Places as places
use Rattle.function_table.specs.declared.Function.{Function}
use Rattle.function_table.specs.Functions.{as_func, as_function}
use Rattle.admission.specs.Admission.{admission}
use Rattle.admission.proofs.AnswerLaws.{judged_none, refused_is, refused_then, laid-is, laid_then, laid_layout}
use Rattle.string_walk.specs.declared.Counts.{Counts}
use Rattle.string_walk.specs.declared.Location.{Location}
use Rattle.string_walk.specs.declared.StringRecord.{StringRecord}
use Rattle.string_walk.specs.Places.{Locates}
use Rattle.string_walk.specs.Records.{record_of}
use Rattle.string_walk.specs.Walk.{visits}
use Rattle.string_walk.proofs.RecordLaws.{record_is}
use Rattle.string_walk.proofs.WalkLaws.{located_at, located_none}
use Rattle.reader.specs.Reading.{id_refusal, located, string_read, body_read}

-- ---- a reading by id

-- the number is judged of the image's checks and, behind them, of the id
pub judged_behind : (l : Layout) (s : List ℕ) (count id : ℕ)
    → id_refusal l s count id ≡ judge (checks l s ++ (check 7 (leb count id) ∷ []))
unfolding id_refusal
judged_behind l s count id = refl

-- what is not refused is an admitted image's, and the id is one of it
pub read_is : (l : Layout) (s : List ℕ) (count id : ℕ) → id_refusal l s count id ≡ 0 → (refusal l s ≡ 0) × (id < count)
read_is l s count id e =
    let (z, q) = judged_none l s (check 7 (leb count id) ∷ []) (sym (judged_behind l s count id) ∙ e) in
    (z, leb-false count id (judge_pass (check 7 (leb count id)) [] (omega arith) q).0)

module _ (l : Layout) (s : List ℕ) (count id : ℕ) {A : Type 0} (found : A) (refused : ℕ → A) where
  abbrev answered : A
  answered = pick (eqb (id_refusal l s count id) 0) found (refused (id_refusal l s count id))

  pub not_admitted : (r : Result Places ℕ) → r ≡ admission l s → (k : ℕ) → r ≡ Err k → refused k ≡ answered
  not_admitted r e k f =
      let i : id_refusal l s count id ≡ k
      = judged_behind l s count id ∙ refused_then l s r e k f (check 7 (leb count id) ∷ []) in
      let h : 0 < k = (refused_is l s r e k f).1 in
      rw (i, ne_eqb k 0 (λ y. omega arith))

  module _ (p : Places) (f : admission l s ≡ Ok p) where
    own : judge (checks l s ++ (check 7 (leb count id) ∷ [])) ≡ judge (check 7 (leb count id) ∷ [])
    own = laid_then l s (admission l s) refl p f (check 7 (leb count id) ∷ [])

    pub no_such_id : count ≤ id → refused 7 ≡ answered
    unfolding judge
    no_such_id h = rw (judged_behind l s count id ∙ own, le-leb count id h)

    pub id_found : id < count → found ≡ answered
    unfolding judge
    id_found h = rw (judged_behind l s count id ∙ own, lt-leb count id h)

-- ---- strings, bodies, the debug offset

module _ (l : Layout) (s : List ℕ) (r : Result Places ℕ) (e : r ≡ admission l s) (id k : ℕ) (f : r ≡ Err k) where
  pub string_refused : Err k ≡ string_read l s id
  unfolding string_read
  string_refused =
      not_admitted l s (strings_in s) id (Ok (located l s id)) Err r e k f

  pub body_refused : Err k ≡ body_read l s id
  unfolding body_read
  body_refused = not_admitted l s (functions_in s) id (Ok (as_function (func_of l s id))) Err r e k f

module _ (l : Layout) (s : List ℕ) (p : Places) (f : admission l s ≡ Ok p) where
  pub counts : (p.strings ≡ strings_in s) × (p.functions ≡ functions_in s)
  unfolding places_of
  counts =
      let e : p ≡ places_of l s = (laid-is l s (admission l s) refl p f).1 in
      (ap (λ (x : Places). x.strings) e, ap (λ (x : Places). x.functions) e)

  own_layout : p.layout ≡ l
  own_layout = laid_layout l s (admission l s) refl p f

  module _ (id : ℕ) where
    pub body_absent : p.functions ≤ id → Err 7 ≡ body_read l s id
    unfolding body_read
    body_absent h =
        no_such_id l s (functions_in s) id (Ok (as_function (func_of l s id))) Err p f
        (omega (arith, counts.1))

    pub body_found : id < p.functions → (q : Function) → as_func q ≡ func_of p.layout s id
        → Ok q ≡ body_read l s id
    unfolding body_read
    body_found h q g =
        let w : as_func q ≡ func_of l s id = g ∙ ap (λ (x : Layout). func_of x s id) own_layout in
        ap (λ (y : Func). Ok (as_function y)) w
        ∙ id_found l s (functions_in s) id (Ok (as_function (func_of l s id))) Err p f
        (omega (arith, counts.1))

-- the image is admitted with these places, and its string id was looked for
pub record StringSought (l : Layout) (s : List ℕ) (id : ℕ) (p : Places) (loc : Result Location ℕ) : Type 0 where
  pub answer : admission l s ≡ Ok p
  pub laid : places.Laid p s
  pub located : Locates p s id refusals.id loc

module _ {l : Layout} {s : List ℕ} {id : ℕ} {p : Places} {loc : Result Location ℕ} (z : StringSought l s id p loc) where
  -- no such string
  pub string-absent : (m : ℕ) → loc ≡ Err m → loc ≡ string_read l s id
  unfolding string_read
  string-absent m u =
      let (w, b) = located_none p s id refusals.id loc z.located m u in
      u ∙ ap Err w
      ∙ no_such_id l s (strings_in s) id (Ok (located l s id)) Err p z.answer
      (omega (arith, (counts l s p z.answer).0))

  -- the string that was located
  pub string_found : (q : Location) → loc ≡ Ok q → loc ≡ string_read l s id
  unfolding string_read
  string_found q u =
      let (same, known, st, v) = located_at p s id refusals.id loc z.located q u in
      let own : p.layout ≡ l = own_layout l s p z.answer in
      let w : q.string ≡ record_of l s id = record_is p s z.laid.placed id q.string st ∙ ap (λ (k : Layout). record_of k s id) own in
      let m : q.counts ≡ visits l s id = v ∙ ap (λ (k : Layout). visits k s id) own in
      let whole : q ≡ located l s id = rw (← m, ← w, ← same) in
      u ∙ ap Ok whole
      ∙ id_found l s (strings_in s) id (Ok (located l s id)) Err p z.answer
      (omega (arith, (counts l s p z.answer).0))

  -- either way
  pub string_sought : loc ≡ string_read l s id
  string_sought = go loc refl
    where
      go : (x : Result Location ℕ) → loc ≡ x → loc ≡ string_read l s id
      go (Ok q) u = string_found q u
      go (Err m) u = string-absent m u
