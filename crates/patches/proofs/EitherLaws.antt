-- Two string patches of different strings, in either order; by id and by value; and any number by id. 02, No. 12.
use mathlib.Core.Path.{◌≡◌, refl, ap, sym, ◌∙◌}
use mathlib.Core.Logic.{inl, inr}
use mathlib.Core.Option.{none, some}
use mathlib.Core.List.{List, [], ◌∷◌}
use Prim.Native.Nat.{ℕ, zero, suc, ◌<◌}
use native.Mathlib.Omega.{arith}
use borrow.Author.Tests.{leb-false}
use lib.ListN.{length, get_or}
use Rattle.bits.specs.Outcome.{made}
use Rattle.bits.proofs.TestLaws.{below_or}
use Rattle.bits.proofs.JudgeLaws.{judge_pass}
use Rattle.format.specs.declared.Layout.{Layout}
use Rattle.format.specs.declared.Mode.{Mode}
use Rattle.image.specs.Sections.{strings_in}
use Rattle.image.specs.Strings.{string_of, units_of}
use Rattle.admission.proofs.AnswerLaws.{judged_none}
use Rattle.utf.specs.Utf8.{utf16}
use Rattle.string_find.specs.Find.{find_id}
use Rattle.string_edits.specs.Values.{Values, only, Apart, Edit}
use Rattle.string_edits.proofs.TurnLaws.{apart-sym, apart-only, only-apart}
use Rattle.string_packing.specs.Strings.{new_string}
use Rattle.strings.specs.Patch.{by_value_refusal, patch_by_value}
use Rattle.patches.specs.Patches.{Patch, by_id, by_value, in_pass, to_body, outcome_of, Step, step_of, image_after, run, target_of}
use Rattle.patches.specs.Lists.{AllInBytes}
use Rattle.patches.specs.Orders.{AllOfStrings, set_by, set_at, AllApart, Reordered}
use Rattle.patches.specs.Orders.{FourCalls, id_step, TwoById, Replacement, value_step, found_by, TwoByValue, id_steps, ManyById}
use Rattle.patches.proofs.StringLaws.{string_promise}
use Rattle.patches.proofs.StepLaws.{made_of}
use Rattle.patches.proofs.FindLaws.{find_least, find_found}
use Rattle.patches.proofs.ReorderLaws.{reordered_by, one_of}
use Rattle.patches.proofs.MergedLaws.{Making, making_sets, first_made, first_admitted, first_making, rest_merged, set_in}
use Rattle.patches.proofs.MergedLaws.{any_order}

-- ---- two patches

-- the other of two comes first
swapped : {A : Type 0} (e f : ℕ → A) → f 0 ≡ e 1 → f 1 ≡ e 0 → Reordered e f 2
swapped e f a b = record {
  to = other;
  back = other;
  to_in = other_in;
  back_in = other_in;
  to_back = twice;
  back_to = twice;
  same = same;
}
  where
    other : ℕ → ℕ
    other zero = 1
    other (suc j) = 0

    other_in : (j : ℕ) → j < 2 → other j < 2
    other_in zero h = omega arith
    other_in (suc j) h = omega arith

    twice : (j : ℕ) → j < 2 → other (other j) ≡ j
    twice zero h = refl
    twice (suc zero) h = refl
    twice (suc (suc j)) h = absurd (omega arith)

    same : (j : ℕ) → j < 2 → f j ≡ e (other j)
    same zero h = a
    same (suc zero) h = b
    same (suc (suc j)) h = absurd (omega arith)

-- a patch by value that is accepted finds a string
value_known : (m : Mode) (l : Layout) (s old new t : List ℕ) → patch_by_value m l s old new ≡ made t
    → find_id l s (utf16 old) < strings_in s
unfolding patch_by_value by_value_refusal
value_known m l s old new t e =
    let (first, f₁) = judge_pass _ _ (omega arith) (judged_none l s _ (made_of _ _ _ e).0).1 in
    let (second, f₂) = judge_pass _ _ (omega arith) f₁ in
    let (known, f₃) = judge_pass _ _ (omega arith) f₂ in
    leb-false (strings_in s) (find_id l s (utf16 old)) known

-- t is s with other strings where v has values, and units are found in both at strings where it has none
record FoundIn (l : Layout) (s t : List ℕ) (v : Values) (units : List ℕ) : Type 0 where
  strings : strings_in t ≡ strings_in s
  string : (i : ℕ) → i < strings_in s → string_of l t i ≡ new_string (v i) (string_of l s i)
  before : find_id l s units < strings_in s
  after : find_id l t units < strings_in t
  free : v (find_id l s units) ≡ none
  free_after : v (find_id l t units) ≡ none

-- then it is the same string
found_same : (l : Layout) (s t : List ℕ) (v : Values) (units : List ℕ) → FoundIn l s t v units
    → find_id l t units ≡ find_id l s units
found_same l s t v units f =
    let i : ℕ = find_id l s units in
    let j : ℕ = find_id l t units in
    let j₁ : j < strings_in s = omega (arith, f.after, f.strings) in
    let stays : (k : ℕ) → k < strings_in s → v k ≡ none → units_of (string_of l t k) ≡ units_of (string_of l s k)
    = λ k h n. ap units_of (f.string k h ∙ rw n) in
    elim (below_or i j) [
      | inl h ↦ absurd (find_least l t units i h (stays i f.before f.free ∙ find_found l s units f.before))
      | inr h ↦ elim (below_or j i) [
        | inl g ↦ absurd (find_least l s units j g (sym (stays j j₁ f.free_after) ∙ find_found l t units f.after))
        | inr g ↦ omega arith
      ]
    ]

-- a makes t of s; b is accepted on both, and sets no string that a sets
record Behind (m : Mode) (l : Layout) (s : List ℕ) (a b : Patch) (t x y : List ℕ) : Type 0 where
  first : Making m l s a t
  alone : outcome_of l s b ≡ made x
  after : outcome_of l t b ≡ made y
  given : Apart (set_by l s a) (set_by l s b)
  apart : Apart (set_by l s a) (set_by l t b)

-- then b sets on t what it sets on s
sets_still : (m : Mode) (l : Layout) (s : List ℕ) (a b : Patch) (t x y : List ℕ) → Behind m l s a b t x y
    → set_by l t b ≡ set_by l s b
unfolding outcome_of target_of
sets_still m l s a (by_id k id value) t x y g = refl
sets_still m l s a (in_pass k e n) t x y g = refl
sets_still m l s a (to_body id body) t x y g = refl
sets_still m l s a (by_value k old new) t x y g =
    let v : Values = set_by l s a in
    let units : List ℕ = utf16 old in
    let (ok, e) = making_sets m l s a t g.first in
    let kept = (string_promise m l s v ok).kept in
    ap (λ (id : ℕ). only id new)
    (found_same l s t v units
    (record {
      strings = rw (← e) kept.strings;
      string = rw (← e) kept.string;
      before = value_known k l s old new x g.alone;
      after = value_known k l t old new y g.after;
      free = apart-only v (find_id l s units) new g.given;
      free_after = apart-only v (find_id l t units) new g.apart;
    }))

-- numbers 0 and 1 set no string both, and there are no more
two_apart : (v : ℕ → Values) → ((j i : ℕ) (x : List ℕ) → v j i ≡ some x → j < 2) → Apart (v 0) (v 1) → AllApart v
two_apart v within parted i j d a x y p q =
    let i₁ : i < 2 = within i a x p in
    let j₁ : j < 2 = within j a y q in
    elim (below_or i j) [
      | inl h ↦ let e : i ≡ 0 = omega arith in let f : j ≡ 1 = omega arith in parted a x y (rw e at p) (rw f at q)
      | inr h ↦ let e : i ≡ 1 = omega arith in let f : j ≡ 0 = omega arith in parted a y x (rw f at q) (rw e at p)
    ]

-- the four calls, the other order first
turned : (m : Mode) (l : Layout) (s : List ℕ) (a b : Step) → FourCalls m l s a b → FourCalls m l s b a
turned m l s a b c = record {
  image = c.image;
  first = c.second;
  second = c.first;
  given = apart-sym (set_by l s a.patch) (set_by l s b.patch) c.given;
  in_first = c.in_second;
  in_second = c.in_first;
}

-- the second sets what it sets by itself
second_still : (m : Mode) (l : Layout) (s : List ℕ) (a b : Step) → FourCalls m l s a b
    → set_by l (image_after (step_of l s a) s) b.patch ≡ set_by l s b.patch
second_still m l s a b c =
    let u : List ℕ = image_after (step_of l s a) s in
    sets_still m l s a.patch b.patch u _ _
    (record {
      first = first_making m l a (b ∷ []) s c.first (first_admitted m l a (b ∷ []) s c.first c.image);
      alone = first_made m l b (a ∷ []) s c.second;
      after = first_made m l b [] u (rest_merged m l a (b ∷ []) s c.first);
      given = c.given;
      apart = c.in_first;
    })

-- TWO STRING PATCHES, EITHER ORDER
pub either_order : (m : Mode) (l : Layout) (s : List ℕ) (a b : Step) → FourCalls m l s a b
    → run l (a ∷ b ∷ []) s ≡ run l (b ∷ a ∷ []) s
unfolding set_at
either_order m l s a b c =
    any_order m l s (a ∷ b ∷ []) (b ∷ a ∷ [])
    (record {
      image = c.image;
      first = c.first;
      second = c.second;
      long = refl;
      reordered = swapped (set_at l (a ∷ b ∷ []) s) (set_at l (b ∷ a ∷ []) s)
          (sym (second_still m l s a b c)) (second_still m l s b a (turned m l s a b c));
      apart = two_apart (set_at l (a ∷ b ∷ []) s) (set_in l (a ∷ b ∷ []) s) c.in_first;
    })

-- ---- the same of the two entries for one string

module _ (m : Mode) (l : Layout) (s : List ℕ) (room : ℕ) where
  -- BY ID, IF THE IDS DIFFER
  pub either_by_id : (a b : Edit) → TwoById m l s room a b
      → run l (id_step m room a ∷ id_step m room b ∷ []) s ≡ run l (id_step m room b ∷ id_step m room a ∷ []) s
  unfolding target_of
  either_by_id a b c =
      let parted : Apart (only a.id a.value) (only b.id b.value)
      = only-apart a.id b.id a.value b.value c.differ in
      either_order m l s (id_step m room a) (id_step m room b)
      (record {
        image = c.image;
        first = record { strings = (refl, (refl, tt)); bytes = (c.bytes.0, (c.bytes.1, tt)); accepted = c.first };
        second = record { strings = (refl, (refl, tt)); bytes = (c.bytes.1, (c.bytes.0, tt)); accepted = c.second };
        given = parted;
        in_first = parted;
        in_second = apart-sym (only a.id a.value) (only b.id b.value) parted;
      })

  -- BY VALUE, IF THE STRINGS THAT ARE FOUND DIFFER
  pub either_by_value : (a b : Replacement) → TwoByValue m l s room a b
      → run l (value_step m room a ∷ value_step m room b ∷ []) s ≡ run l (value_step m room b ∷ value_step m room a ∷ []) s
  unfolding target_of
  either_by_value a b c =
      either_order m l s (value_step m room a) (value_step m room b)
      (record {
        image = c.image;
        first = record { strings = (refl, (refl, tt)); bytes = (c.bytes.0, (c.bytes.1, tt)); accepted = c.first };
        second = record { strings = (refl, (refl, tt)); bytes = (c.bytes.1, (c.bytes.0, tt)); accepted = c.second };
        given = only-apart (found_by l s a) (found_by l s b) a.new b.new c.given;
        in_first = only-apart (found_by l s a) _ a.new b.new c.in_first;
        in_second = only-apart (found_by l s b) _ b.new a.new c.in_second;
      })

-- ---- any number by id

module _ (m : Mode) (room : ℕ) where
  -- patch j sets what edit j says
  steps-set : (l : Layout) (e : ℕ → Edit) (k : ℕ) (s : List ℕ) (j : ℕ) → j < k
      → set_at l (id_steps m room e k) s j ≡ one_of (e j)
  unfolding id_steps set_at target_of
  steps-set l e zero s j h = absurd (omega arith)
  steps-set l e (suc k) s zero h = refl
  steps-set l e (suc k) s (suc j) h = steps-set l (λ i. e (suc i)) k (image_after (step_of l s (id_step m room (e 0))) s) j (omega arith)

  steps-long : (e : ℕ → Edit) (k : ℕ) → length (id_steps m room e k) ≡ k
  unfolding id_steps
  steps-long e zero = refl
  steps-long e (suc k) = ap suc (steps-long (λ j. e (suc j)) k)

  steps_strings : (e : ℕ → Edit) (k : ℕ) → AllOfStrings m (id_steps m room e k)
  unfolding id_steps
  steps_strings e zero = tt
  steps_strings e (suc k) = (refl, steps_strings (λ j. e (suc j)) k)

  steps_bytes : (e : ℕ → Edit) (k : ℕ) → ((j : ℕ) → j < k → (p : ℕ) → get_or (e j).value p 0 < 256)
      → AllInBytes (id_steps m room e k)
  unfolding id_steps
  steps_bytes e zero b = tt
  steps_bytes e (suc k) b = (b 0 (omega arith), steps_bytes (λ j. e (suc j)) k (λ j h. b (suc j) (omega arith)))

-- ANY NUMBER OF PATCHES BY ID, ANY ORDER, IF THE IDS DIFFER
pub any_by_id : (m : Mode) (l : Layout) (s : List ℕ) (room : ℕ) (e f : ℕ → Edit) (k : ℕ) → ManyById m l s room e f k
    → run l (id_steps m room e k) s ≡ run l (id_steps m room f k) s
any_by_id m l s room e f k c =
    any_order m l s ps qs
    (record {
      image = c.image;
      first = record { strings = steps_strings m room e k; bytes = steps_bytes m room e k c.bytes; accepted = c.first };
      second = record { strings = steps_strings m room f k; bytes = steps_bytes m room f k f_bytes; accepted = c.second };
      long = steps-long m room f k ∙ sym (steps-long m room e k);
      reordered = rw (steps-long m room e k)
          (reordered_by one_of e f (set_at l ps s) (set_at l qs s) k r (steps-set m room l e k s) (steps-set m room l f k s));
      apart = λ i j d a x y p q.
          let i₁ : i < k = omega (arith, set_in l ps s i a x p, steps-long m room e k) in
          let j₁ : j < k = omega (arith, set_in l ps s j a y q, steps-long m room e k) in
          only-apart (e i).id (e j).id (e i).value (e j).value (λ z. d (c.differ i j i₁ j₁ z)) a x y
          (ap (λ (v : Values). v a) (sym (steps-set m room l e k s i i₁)) ∙ p)
          (ap (λ (v : Values). v a) (sym (steps-set m room l e k s j j₁)) ∙ q);
    })
  where
    ps : List Step
    ps = id_steps m room e k

    qs : List Step
    qs = id_steps m room f k

    r : Reordered e f k
    r = c.reordered

    f_bytes : (j : ℕ) → j < k → (p : ℕ) → get_or (f j).value p 0 < 256
    f_bytes j h p = rw (r.same j h) (c.bytes (r.to j) (r.to_in j h) p)
