-- Refusals 11 to 13 of a rebuild, by its plan.
use Rattle.std.specs.Prelude.{Err, Ok}
use mathlib.Core.Path.{◌≡◌, refl, ap, sym, ◌∙◌}
use mathlib.Core.Bool.{Bool, true, false, not}
use mathlib.Core.Logic.{◌≢◌}
use mathlib.Core.List.{List, [], ◌∷◌}
use Prim.Native.Nat.{ℕ, ◌+◌, ◌-◌, ◌*◌, ◌≤◌, ◌<◌}
use native.Mathlib.Omega.{arith}
use borrow.Author.Tests.{lt-ltb, le-ltb, ltb-false, not-false}
use lib.Dec.{ltb}
use lib.ListN.{length}
use Rattle.bits.specs.Choice.{pick, check, judge}
use Rattle.bits.specs.Bytes.{up4}
use Rattle.bits.specs.Outcome.{Outcome, Answers, refused, made, outcome_for, passed, roomed}
use Rattle.bits.proofs.JudgeLaws.{judge_pass}
use Rattle.bits.proofs.TestLaws.{is_found, is-refused}
use Rattle.format.specs.declared.Mode.{Mode}
use Rattle.format.specs.Move.{moved}
use Rattle.format.proofs.MoveLaws.{moved-high}
use Rattle.footer.specs.Finalize.{size_limit}
use Rattle.image.specs.Sections.{small_at, tail_at}
use Rattle.edits.specs.Fit.{fields_fit}
use Rattle.edits.specs.Rebuild.{new_tail}
use Rattle.edits.proofs.RebuildLaws.{length_rebuilt}
use Rattle.sections.specs.declared.Places.{Places}
use Rattle.sections.specs.Places.{Placed, Laid}
use Rattle.sections.proofs.SectionLaws.{Sectioned, sectioned}
use Rattle.string_edits.specs.Values.{Values}
use Rattle.string_packing.specs.declared.Sizes.{Sizes}
use Rattle.string_packing.specs.Strings.{string_with}
use Rattle.string_packing.specs.Pass.{string_most, Measured}
use Rattle.string_packing.proofs.PassLaws.{tail_is}
use Rattle.string_in_place.specs.Patch.{fits_all, changed, patched_strings, new_length, patch_fits, result_checks, patch_known}
use Rattle.string_in_place.proofs.FinishLaws.{length-finished, Makes}
use Rattle.string_rebuild.specs.declared.Plan.{Plan}
use Rattle.string_rebuild.specs.Ready.{tail_of, plan_of, Planned, plan_refusal, number_of}
use Rattle.string_rebuild.proofs.RebuildLaws.{new_strings}

-- ---- a test by its number

pub passed_none : (n : ℕ) → passed n ≡ Ok tt → n ≡ 0
passed_none n e = (is_found n (Ok tt) Err (Ok tt) e (λ k z. let y : ◌≡◌ {A = ℕ} 0 1 = cc in omega arith)).0

pub passed_some : (n k : ℕ) → passed n ≡ Err k → (0 < n) × (n ≡ k)
passed_some n k e =
    let (h, q) = is-refused n (Ok tt) Err (Err k) e (λ z. let y : ◌≡◌ {A = ℕ} 0 1 = cc in omega arith) in
    (h, cc)

-- ---- an outcome by its number

refuses : (o : Outcome) (n : ℕ) (out : List ℕ) → n ≡ number_of o → n ≢ 0 → Answers o (Err n) out out
refuses (refused k) n out e z = (ap Err e, refl)
refuses (made t) n out e z = absurd (z e)

-- what is made is judged by its length last
judged_room : (a b : Bool) (room n : ℕ) (new : List ℕ) → length new ≡ n
    → judge (check 11 a ∷ check 12 b ∷ check 13 (ltb room n) ∷ [])
    ≡ number_of (roomed room (outcome_for (judge (check 11 a ∷ check 12 b ∷ [])) new))
unfolding judge roomed
judged_room true b room n new e = refl
judged_room false true room n new e = refl
judged_room false false room n new e = rw e (go (ltb room n))
  where
    go : (c : Bool) → pick c 13 0 ≡ number_of (pick c (refused 13) (made new))
    go true = refl
    go false = refl

-- ---- a plan

-- for sizes that are small its sums are exact
module _ (p : Places) (s : List ℕ) (pl : Placed p s) (z : Sizes) (few : z.overflows ≤ size_limit)
    (low : z.storage ≤ size_limit * string_most) where
  pub low_sum : (t : ℕ) → t ≡ tail_of p z → length s - p.tail + t ≤ 1152921504606846976
  low_sum t e =
      let sc : Sectioned p s = sectioned p s pl in
      low_of (length s) p.tail t p.over_at z.overflows z.storage sc.most (omega (arith, sc)) few low e
    where
      low_of : (n f t a b d : ℕ) → n ≤ size_limit → a ≤ size_limit → b ≤ size_limit → d ≤ size_limit * string_most
          → t ≡ up4 (a + b * 8 + d) → n - f + t ≤ 1152921504606846976
      low_of n f t a b d h i j k e = omega arith

pub plan_is : (p : Places) (n : ℕ) (z : Sizes) (t : ℕ) → t ≡ tail_of p z
    → record { sizes = z; tail = t; length = n - p.tail + t } ≡ plan_of p n z
unfolding plan_of
plan_is p n z t e = rw e

-- sizes that were measured are small
pub measured_low : (m : Mode) (p : Places) (s : List ℕ) (v : Values) (z : Sizes) → Placed p s
    → Measured m p (string_with p.layout s v) z → (z.overflows ≤ size_limit) × (z.storage ≤ size_limit * string_most)
measured_low m p s v z pl me =
    let sc : Sectioned p s = sectioned p s pl in
    (omega (arith, sc, me.few), omega (arith, sc, me.low))

pub planned : (m : Mode) (p : Places) (s : List ℕ) (v : Values) (z : Sizes) → Measured m p (string_with p.layout s v) z
    → (plan : Plan) → plan ≡ plan_of p (length s) z → Planned m p s v plan
unfolding plan_of
planned m p s v z me plan e = rw e (record { measured = me; is = refl })

module _ (m : Mode) (p : Places) (s : List ℕ) (v : Values) (plan : Plan) (pl : Planned m p s v plan) where
  pub planned_tail : plan.tail ≡ tail_of p plan.sizes
  unfolding plan_of
  planned_tail = ap (λ (x : Plan). x.tail) pl.is

  pub planned_length : plan.length ≡ length s - p.tail + plan.tail
  unfolding plan_of
  planned_length = ap (λ (x : Plan). x.length) pl.is ∙ ap (λ (t : ℕ). length s - p.tail + t) (sym planned_tail)

-- ---- what it meets

module _ (p : Places) (s : List ℕ) (plan : Plan) (room : ℕ) where
  abbrev fits : Bool
  fits = fields_fit p.layout s (moved p.tail plan.tail)

  pub too_long : size_limit < plan.length → Err 11 ≡ passed (plan_refusal p s plan room)
  unfolding plan_refusal judge
  too_long h = rw (lt-ltb size_limit plan.length h)

  module _ (limit : plan.length ≤ size_limit) (r : Bool) (e : r ≡ fits) where
    pub past_field : not r ≡ true → Err 12 ≡ passed (plan_refusal p s plan room)
    unfolding plan_refusal judge
    past_field f = rw (le-ltb size_limit plan.length limit, ← e, f)

    pub no_room : not r ≡ false → room < plan.length → Err 13 ≡ passed (plan_refusal p s plan room)
    unfolding plan_refusal judge
    no_room f h = rw (le-ltb size_limit plan.length limit, ← e, f, lt-ltb room plan.length h)

    pub meets_none : not r ≡ false → plan.length ≤ room → Ok tt ≡ passed (plan_refusal p s plan room)
    unfolding plan_refusal judge
    meets_none f h = rw (le-ltb size_limit plan.length limit, ← e, f, le-ltb room plan.length h)

-- nothing
pub record MeetsNone (p : Places) (s : List ℕ) (plan : Plan) (room : ℕ) : Type 0 where
  pub limit : plan.length ≤ size_limit
  pub fields : fields_fit p.layout s (moved p.tail plan.tail) ≡ true
  pub enough : plan.length ≤ room

pub none_met : (p : Places) (s : List ℕ) (plan : Plan) (room : ℕ) → plan_refusal p s plan room ≡ 0 → MeetsNone p s plan room
unfolding plan_refusal
none_met p s plan room e =
    let (limit, e₁) = judge_pass _ _ (omega arith) e in
    let (fields, e₂) = judge_pass _ _ (omega arith) e₁ in
    let (short, e₃) = judge_pass _ _ (omega arith) e₂ in
    record {
      limit = ltb-false _ _ limit;
      fields = not-false _ fields;
      enough = ltb-false _ _ short;
    }

-- ---- a plan of strings that do not all fit in place

module _ (m : Mode) (p : Places) (s : List ℕ) (v : Values) (plan : Plan) (laid : Laid p s)
    (moves : fits_all p.layout s v ≡ false) (pl : Planned m p s v plan) where
  sc : Sectioned p s
  sc = sectioned p s laid.placed

  abbrev to : ℕ
  to = new_tail p.layout (new_strings m p s v) s

  tail_to : plan.tail ≡ to
  tail_to = planned_tail m p s v plan pl ∙ tail_is m p s laid.placed v plan.sizes pl.measured

  length_to : plan.length ≡ length s - p.tail + to
  length_to = planned_length m p s v plan pl ∙ ap (λ (t : ℕ). length s - p.tail + t) tail_to

  long-is : new_length m p.layout s v ≡ plan.length
  unfolding new_length
  long-is = rw moves (moved-high (tail_at p.layout s) to (length s) (omega (arith, sc)) ∙ rw (← sc.tail_from) (sym length_to))

  fits-is : patch_fits m p.layout s v ≡ fields_fit p.layout s (moved p.tail plan.tail)
  unfolding patch_fits
  fits-is = rw (moves, tail_to, sc.tail_from)

  length-changed : length (changed m p.layout s v) ≡ plan.length
  unfolding changed
  length-changed =
      rw moves (length_rebuilt p.layout (new_strings m p s v) s laid.admitted ∙ rw (← sc.tail_from) (sym length_to))

  small_to : small_at p.layout s ≤ to
  small_to = omega arith

  length_patched : length (patched_strings m p.layout s v) ≡ plan.length
  unfolding patched_strings
  length_patched =
      length-finished p.layout s v (changed m p.layout s v) (omega (arith, length-changed, length_to, sc, small_to))
      ∙ length-changed

  -- A PLAN MEETS WHAT THE PATCH IS REFUSED WITH
  pub refusal_is : (room : ℕ) → plan_refusal p s plan room ≡ number_of (roomed room (patch_known m p.layout s v))
  unfolding plan_refusal patch_known
  refusal_is room =
      rw (long-is, fits-is)
      (judged_room (ltb size_limit plan.length) (not (fields_fit p.layout s (moved p.tail plan.tail))) room plan.length
      (patched_strings m p.layout s v) length_patched)

  -- in the room that it asks for it meets 11 and 12 alone
  pub refusal_roomless : plan_refusal p s plan plan.length ≡ judge (result_checks m p.layout s v)
  unfolding plan_refusal judge
  refusal_roomless = rw (long-is, fits-is, le-ltb plan.length plan.length (omega arith))

  pub met_refused : (out : List ℕ) (k : ℕ) → passed (plan_refusal p s plan (length out)) ≡ Err k
      → Answers (roomed (length out) (patch_known m p.layout s v)) (Err k) out out
  met_refused out k e =
      let (h, q) = passed_some (plan_refusal p s plan (length out)) k e in
      refuses (roomed (length out) (patch_known m p.layout s v)) k out (sym q ∙ refusal_is (length out)) (λ z. omega arith)

  -- and where it meets nothing the patch is made
  pub makes : (room : ℕ) → MeetsNone p s plan room
      → Makes (patch_known m p.layout s v) (patched_strings m p.layout s v) plan.length
  unfolding patch_known judge
  makes room n = record {
    is = rw (long-is, fits-is, le-ltb size_limit plan.length n.limit, n.fields);
    long = length_patched;
  }
