-- The stages of admission: one law for each way out, and all of them together are the definition.
use Rattle.std.specs.Prelude.{Err, Ok, Result}
use mathlib.Core.Path.{◌≡◌, refl, sym, ◌∙◌, ap, subst⁻¹}
use mathlib.Core.Bool.{Bool, true, false, not}
use mathlib.Core.List.{List}
use Prim.Native.Nat.{ℕ, ◌+◌, ◌-◌, ◌≤◌, ◌<◌}
use native.Mathlib.Omega.{arith}
use lib.Dec.{ltb, eqb}
use lib.ListN.{length, take, drop}
use borrow.Author.Tests.{lt-ltb, le-ltb, ltb-false, eq-eqb, ne_eqb, not-true, not-false}
use Rattle.bits.specs.Choice.{pick, both, judge}
use Rattle.bits.proofs.TestLaws.{both_0}
use Rattle.format.specs.declared.Layout.{Layout}
use Rattle.format.specs.Table as table
use Rattle.format.specs.Number.{number_held}
use Rattle.footer.specs.Footer.{footer_length}
use Rattle.footer.specs.Finalize.{size_limit}
use Rattle.image.specs.Sections.{kinds_in, identifiers_in, strings_in, tail_at}
use Rattle.image.specs.Kinds.{kind_in, covered, identified}
use Rattle.image.specs.Admission.{overflows_counted, overflows_numbered, strings_stored, strings_narrow, headers_in, bodies_in, infos_in}
use Rattle.image.specs.Admission.{debug_in_tail, headers_apart, bodies_apart, checks, refusal}
use Rattle.sections.specs.declared.Places.{Places}
use Rattle.sections.specs.Places.{places_of, Fits, Placed}
use Rattle.string_tables.specs.Kinds.{kinds_good}
use Rattle.string_tables.specs.Strings.{strings_good}
use Rattle.function_table.specs.Functions.{functions_in_tail}
use Rattle.large_headers.specs.Clear.{all_apart}
use Rattle.admission.specs.Admission.{answer_for, admission, laid_out, strings_judged, functions_good, functions_judged}

-- ---- size, magic, sections

-- the length is one that an image may have
pub record LengthTested (s : List ℕ) : Type 0 where
  pub least : table.header_length + footer_length ≤ length s
  pub most : length s ≤ size_limit

-- and the bytes start as those of an image do
pub record Marked (s : List ℕ) : Type 0 where
  pub sized : LengthTested s
  pub magic : number_held table.magic s ≡ table.magic_number

module _ (l : Layout) (s : List ℕ) where
  pub too_short : length s < table.header_length + footer_length → Err 1 ≡ laid_out l s
  unfolding laid_out checks judge
  too_short h = rw (lt-ltb (length s) (table.header_length + footer_length) h)

  pub too_long : table.header_length + footer_length ≤ length s → size_limit < length s → Err 1 ≡ laid_out l s
  unfolding laid_out checks judge
  too_long k h = rw (le-ltb (length s) (table.header_length + footer_length) k, lt-ltb size_limit (length s) h)

  -- what is left of the definition
  sized_laid : LengthTested s → laid_out l s ≡ answer_for l s (judge (take 2 (drop 2 (checks l s))))
  unfolding laid_out checks judge
  sized_laid z =
      rw (le-ltb (length s) (table.header_length + footer_length) z.least, le-ltb size_limit (length s) z.most)

  marked-laid : Marked s → laid_out l s ≡ answer_for l s (pick (ltb (length s) (tail_at l s + footer_length)) 3 0)
  unfolding checks judge
  marked-laid z = sized_laid z.sized ∙ rw (eq-eqb (number_held table.magic s) table.magic_number z.magic)

module _ {s : List ℕ} (z : LengthTested s) (m : ℕ) (g : m ≡ number_held table.magic s) where
  pub no_magic : (l : Layout) → (m ≡ table.magic_number → ⊥) → Err 2 ≡ laid_out l s
  unfolding checks judge
  no_magic l h = sym (sized_laid l s z ∙ rw (← g, ne_eqb m table.magic_number h))

  pub is-marked : m ≡ table.magic_number → Marked s
  is-marked h = record { sized = z; magic = sym g ∙ h }

module _ (l : Layout) {s : List ℕ} (z : Marked s) (p : Places) (k : p ≡ places_of l s) where
  ends : (p.tail ≡ tail_at l s) × (p.footer ≡ length s - footer_length)
  unfolding places_of
  ends = (ap (λ (x : Places). x.tail) k, ap (λ (x : Places). x.footer) k)

  pub no_room : p.footer < p.tail → Err 3 ≡ laid_out l s
  no_room h =
      let r : length s < tail_at l s + footer_length = omega (arith, ends) in
      sym (marked-laid l s z ∙ rw (lt-ltb (length s) (tail_at l s + footer_length) r))

  pub all_laid : p.tail ≤ p.footer → Ok p ≡ laid_out l s
  all_laid h =
      let r : tail_at l s + footer_length ≤ length s = omega (arith, ends) in
      ap Ok k ∙ sym (marked-laid l s z ∙ rw (le-ltb (length s) (tail_at l s + footer_length) r))

-- ---- strings and functions

-- all that functions have in the tail is there, and the debug offset too
pub record InTail (l : Layout) (s : List ℕ) : Type 0 where
  pub functions : functions_in_tail l s ≡ true
  pub debug : debug_in_tail l s ≡ true

module _ (p : Places) (s : List ℕ) where
  module _ (a : Bool) (e : a ≡ kinds_good p.layout s) where
    pub bad_kinds : not a ≡ true → Err 4 ≡ strings_judged p s
    unfolding strings_judged
    bad_kinds t = rw (← e, not-true a t)

    pub good_kinds : not a ≡ false → kinds_good p.layout s ≡ true
    good_kinds t = sym e ∙ not-false a t

  module _ (z : kinds_good p.layout s ≡ true) (b : Bool) (g : b ≡ strings_good p.layout s) where
    pub bad_strings : not b ≡ true → Err 5 ≡ strings_judged p s
    unfolding strings_judged
    bad_strings u = rw (z, ← g, not-true b u)

    pub good_strings : not b ≡ false → Ok p ≡ strings_judged p s
    unfolding strings_judged
    good_strings u = rw (z, ← g, not-false b u)

  module _ (a : Bool) (e : a ≡ functions_in_tail p.layout s) where
    pub not_in_tail : not a ≡ true → Err 6 ≡ functions_judged p s
    unfolding functions_judged functions_good
    not_in_tail t = rw (← e, not-true a t)

    pub functions_are_in : not a ≡ false → functions_in_tail p.layout s ≡ true
    functions_are_in t = sym e ∙ not-false a t

  module _ (z : functions_in_tail p.layout s ≡ true) where
    pub headers_are_in : headers_in p.layout s ≡ true
    unfolding functions_in_tail
    headers_are_in = both_0 (headers_in p.layout s) (both (bodies_in p.layout s) (infos_in p.layout s)) z

    module _ (b : Bool) (g : b ≡ debug_in_tail p.layout s) where
      pub bad_debug : not b ≡ true → Err 6 ≡ functions_judged p s
      unfolding functions_judged functions_good
      bad_debug u = rw (z, ← g, not-true b u)

      pub is-in-tail : not b ≡ false → InTail p.layout s
      is-in-tail u = record { functions = z; debug = sym g ∙ not-false b u }

  module _ (z : InTail p.layout s) (c : Bool) (h : c ≡ all_apart p.layout s) where
    pub not-apart : not c ≡ true → Err 6 ≡ functions_judged p s
    unfolding functions_judged functions_good
    not-apart v = rw (z.functions, z.debug, ← h, not-true c v)

    pub good_functions : not c ≡ false → Ok p ≡ functions_judged p s
    unfolding functions_judged functions_good
    good_functions v = rw (z.functions, z.debug, ← h, not-false c v)

-- ---- all stages: the checks of one number as one test

two : (a b : Bool) (n r : ℕ) → pick (not a) n (pick (not b) n r) ≡ pick (both a b) r n
two true true n r = refl
two true false n r = refl
two false b n r = refl

four : (a b c d : Bool) (n r : ℕ) → pick (not a) n (pick (not b) n (pick (not c) n (pick (not d) n r))) ≡ pick
    (both a (both b (both c d))) r n
four true true c d n r = two c d n r
four true false c d n r = refl
four false b c d n r = refl

six : (a b c d e f : Bool) (n r : ℕ)
    → pick (not a) n (pick (not b) n (pick (not c) n (pick (not d) n (pick (not e) n (pick (not f) n r))))) ≡ pick
    (both (both a (both b c)) (both d (both e f))) r n
six true true true d e f n r = four true d e f n r
six true true false d e f n r = refl
six true false c d e f n r = refl
six false b c d e f n r = refl

-- the first four, and the rest where they pass
first_four : (a b c d : Bool) (r : ℕ)
    → pick a 1 (pick b 1 (pick c 2 (pick d 3 r))) ≡ pick (eqb (pick a 1 (pick b 1 (pick c 2 (pick d 3 0)))) 0) r
    (pick a 1 (pick b 1 (pick c 2 (pick d 3 0))))
first_four true b c d r = refl
first_four false true c d r = refl
first_four false false true d r = refl
first_four false false false true r = refl
first_four false false false false r = refl

module _ (l : Layout) (s : List ℕ) where
  -- the number that the first stage gives
  abbrev stage : ℕ
  stage = judge (take 4 (checks l s))

  -- the checks from a place on
  abbrev from : ℕ → ℕ
  from k = judge (drop k (checks l s))

  kinds_stage : from 4 ≡ pick (kinds_good l s) (from 6) 4
  unfolding checks judge kinds_good
  kinds_stage =
      two (eqb (covered (kind_in l s) (kinds_in s)) (strings_in s)) (eqb (identified (kind_in l s) (kinds_in s)) (identifiers_in s)) 4
      (from 6)

  strings_stage : from 6 ≡ pick (strings_good l s) (from 10) 5
  unfolding checks judge strings_good
  strings_stage = four (overflows_counted l s) (overflows_numbered l s) (strings_stored l s) (strings_narrow l s) 5 (from 10)

  functions_stage : from 10 ≡ pick (functions_good l s) 0 6
  unfolding checks judge functions_good functions_in_tail all_apart
  functions_stage = six (headers_in l s) (bodies_in l s) (infos_in l s) (debug_in_tail l s) (headers_apart l s) (bodies_apart l s) 6 0

  first_stage : refusal l s ≡ pick (eqb stage 0) (from 4) stage
  unfolding refusal checks judge
  first_stage =
      first_four (ltb (length s) (table.header_length + footer_length)) (ltb size_limit (length s))
      (not (eqb (number_held table.magic s) table.magic_number)) (ltb (length s) (tail_at l s + footer_length)) (from 4)

  -- ---- the ways out of admission

  pub refused_first : (r : Result Places ℕ) → r ≡ laid_out l s → (k : ℕ) → r ≡ Err k → r ≡ admission l s
  unfolding laid_out admission
  refused_first r e k f = e ∙ go (eqb stage 0) refl (sym e ∙ f)
    where
      go : (b : Bool) → eqb stage 0 ≡ b → answer_for l s stage ≡ Err k → answer_for l s stage ≡ answer_for l s (refusal l s)
      go true h q = let z : ◌≡◌ {A = ℕ} 0 1 = cc (rw h at q) in absurd (omega arith)
      go false h q = let k : refusal l s ≡ stage = first_stage ∙ rw h in ap (λ (n : ℕ). answer_for l s n) (sym k)

  module _ (p : Places) (f : laid_out l s ≡ Ok p) where
    passed : (eqb stage 0 ≡ true) × (p ≡ places_of l s)
    unfolding laid_out
    passed = go (eqb stage 0) f
      where
        go : (b : Bool) → pick b (Ok (places_of l s)) (Err stage) ≡ Ok p → (b ≡ true) × (p ≡ places_of l s)
        go true q = (refl, cc)
        go false q = let z : ◌≡◌ {A = ℕ} 0 1 = cc in absurd (omega arith)

    fits : Fits l s
    unfolding checks judge
    fits =
        go (ltb (length s) (table.header_length + footer_length)) (ltb size_limit (length s))
        (not (eqb (number_held table.magic s) table.magic_number)) (ltb (length s) (tail_at l s + footer_length)) refl refl passed.0
      where
        go : (a b c d : Bool) → ltb size_limit (length s) ≡ b → ltb (length s) (tail_at l s + footer_length) ≡ d
            → eqb (pick a 1 (pick b 1 (pick c 2 (pick d 3 0)))) 0 ≡ true → Fits l s
        go false false false false h g
            q = record { most = ltb-false size_limit (length s) h; room = ltb-false (length s) (tail_at l s + footer_length) g }
        go true b c d h g q = let z : ◌≡◌ {A = ℕ} 0 1 = cc in absurd (omega arith)
        go false true c d h g q = let z : ◌≡◌ {A = ℕ} 0 1 = cc in absurd (omega arith)
        go false false true d h g q = let z : ◌≡◌ {A = ℕ} 0 1 = cc in absurd (omega arith)
        go false false false true h g q = let z : ◌≡◌ {A = ℕ} 0 1 = cc in absurd (omega arith)

    own_layout : p.layout ≡ l
    unfolding places_of
    own_layout = ap (λ (x : Places). x.layout) passed.1

    pub placed : Placed p s
    placed = record {
      is = passed.1
          ∙ ap (λ (x : Layout). places_of x s) (sym own_layout);
      fits = subst⁻¹ (λ (x : Layout). Fits x s) own_layout fits;
    }

    -- what is left of the definition
    rest : refusal l s ≡ from 4
    rest = first_stage ∙ rw passed.0

    strings_are : strings_judged p s ≡ pick (kinds_good l s) (pick (strings_good l s) (Ok p) (Err 5)) (Err 4)
    unfolding strings_judged
    strings_are = ap (λ (x : Layout). pick (kinds_good x s) (pick (strings_good x s) (Ok p) (Err 5)) (Err 4)) own_layout

    functions_are : functions_judged p s ≡ pick (functions_good l s) (Ok p) (Err 6)
    unfolding functions_judged
    functions_are = ap (λ (x : Layout). pick (functions_good x s) (Ok p) (Err 6)) own_layout

    pub refused_second : (j : Result Places ℕ) → j ≡ strings_judged p s → (k : ℕ) → j ≡ Err k → j ≡ admission l s
    unfolding admission
    refused_second j g k h =
        let n : refusal l s ≡ pick (kinds_good l s) (pick (strings_good l s) (from 10) 5) 4
        = rest ∙ rw (kinds_stage, strings_stage) in
        g ∙ strings_are ∙ go (kinds_good l s) (strings_good l s) (sym strings_are ∙ sym g ∙ h)
        ∙ ap (λ (m : ℕ). answer_for l s m) (sym n)
      where
        go : (a b : Bool) → pick {A = Result Places ℕ} a (pick b (Ok p) (Err 5)) (Err 4) ≡ Err k
            → pick {A = Result Places ℕ} a (pick b (Ok p) (Err 5)) (Err 4) ≡ answer_for l s (pick a (pick b (from 10) 5) 4)
        go true true q = let z : ◌≡◌ {A = ℕ} 0 1 = cc in absurd (omega arith)
        go true false q = refl
        go false b q = refl

    pub judged_last : (q : Places) → strings_judged p s ≡ Ok q → (r : Result Places ℕ) → r ≡ functions_judged p s
        → r ≡ admission l s
    unfolding admission
    judged_last q h r d =
        let n : refusal l s ≡ pick (kinds_good l s) (pick (strings_good l s) (pick (functions_good l s) 0 6) 5) 4
        = rest ∙ rw (kinds_stage, strings_stage, functions_stage) in
        d ∙ functions_are ∙ go (kinds_good l s) (strings_good l s) (functions_good l s) (sym strings_are ∙ h)
        ∙ ap (λ (m : ℕ). answer_for l s m) (sym n)
      where
        go : (a b c : Bool) → pick {A = Result Places ℕ} a (pick b (Ok p) (Err 5)) (Err 4) ≡ Ok q
            → pick {A = Result Places ℕ} c (Ok p) (Err 6) ≡ answer_for l s (pick a (pick b (pick c 0 6) 5) 4)
        go true true true x = ap Ok passed.1
        go true true false x = refl
        go true false c x = let z : ◌≡◌ {A = ℕ} 0 1 = cc in absurd (omega arith)
        go false b c x = let z : ◌≡◌ {A = ℕ} 0 1 = cc in absurd (omega arith)
