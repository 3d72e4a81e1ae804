-- The refusals of a body patch in order, one law for each way out.
use Rattle.std.specs.Prelude.{Err, Ok, Result}
use mathlib.Core.Path.{◌≡◌, refl, ap, sym, ◌∙◌, subst}
use mathlib.Core.Bool.{Bool, true, false, not}
use mathlib.Core.List.{List, ◌∷◌}
use Prim.Native.Nat.{ℕ, ◌+◌, ◌-◌, ◌≤◌, ◌<◌}
use native.Mathlib.Omega.{arith}
use borrow.Author.Tests.{le-leb, lt-leb, ltb-false, leb-false, eq-eqb, ne_eqb, eqb-true, not-true, not-false}
use lib.Dec.{leb, ltb, eqb}
use lib.ListN.{length, get_or}
use lib.Seq.{sets, length-sets}
use Rattle.bits.specs.Choice.{pick, both, either, implies, check, judge}
use Rattle.bits.specs.Outcome.{refused, made, answered}
use Rattle.bits.proofs.TestLaws.{both_0, both_1}
use Rattle.bits.proofs.JudgeLaws.{judge_pass}
use Rattle.format.specs.declared.Layout.{Layout}
use Rattle.format.specs.Move.{moved}
use Rattle.format.proofs.MoveLaws.{moved-high}
use Rattle.footer.specs.Finalize.{size_limit}
use Rattle.footer.proofs.FinalizeLaws.{length_finalized}
use Rattle.image.specs.Sections.{functions_in, debug_in}
use Rattle.image.specs.Functions.{Func, func_of}
use Rattle.image.specs.Admission.{refusal}
use Rattle.image.specs.Admitted.{Admitted}
use Rattle.image.proofs.AdmitLaws as admission-laws
use Rattle.edits.specs.Edit.{edit}
use Rattle.edits.specs.Rebuild.{resize}
use Rattle.edits.specs.Fit.{beyond, size_row, fields_fit}
use Rattle.edits.proofs.WriteLaws.{length_writes, length-splice}
use Rattle.sections.specs.declared.Places.{Places}
use Rattle.sections.specs.Places.{places_of}
use Rattle.sections.specs.Places as places
use Rattle.admission.specs.Admission.{admission}
use Rattle.admission.proofs.AnswerLaws.{judged_then, judged_none, refused_is, laid-is, is-laid}
use Rattle.function_table.specs.declared.Function.{Function}
use Rattle.function_table.specs.Functions.{as_func, WordSized, Readable}
use Rattle.function_checks.specs.Checks.{threshold, body_alone, infos_outside, debug_past, from_nothing, moved_past_body}
use Rattle.function_checks.specs.Checks.{size_fits, FunctionIs}
use Rattle.functions.specs.Patch.{bodied, patched_body, body_checks, body_refusal, patch_body, answer_for}
use Rattle.functions.specs.Stages.{Accepted}
use Rattle.functions.proofs.AdmitLaws.{readable, body_ends, body_starts, layout_is, functions_are}

-- ---- two tests of number 9 in one

two_no : (a b : Bool) (r : ℕ) → both a b ≡ false → pick (not a) 9 (pick (not b) 9 r) ≡ 9
two_no true true r h = let z : ◌≡◌ {A = ℕ} 0 1 = cc in absurd (omega arith)
two_no true false r h = refl
two_no false b r h = refl

two_yes : (a b : Bool) (r : ℕ) → both a b ≡ true → pick (not a) 9 (pick (not b) 9 r) ≡ r
two_yes a b r h = rw (both_0 a b h, both_1 a b h)

-- ---- the length of the result

module _ (l : Layout) (s : List ℕ) (id : ℕ) (body : List ℕ) (ends : (func_of l s id).begin + (func_of l s id).size ≤ length s) where
  pub length_moved : moved_past_body l s id body (length s) ≡ length s - (func_of l s id).size + length body
  length_moved =
      let f : Func = func_of l s id in
      moved-high (threshold f) (f.begin + length body) (length s) ends ∙ omega (arith, ends)

  length-resize : length (resize l id body s) ≡ length s - (func_of l s id).size + length body
  unfolding resize edit
  length-resize =
      simp length_writes (length-splice (func_of l s id).begin ((func_of l s id).begin + (func_of l s id).size) body s (omega (arith, ends))
      ends ∙ omega (arith, ends))

  pub length-bodied : length (bodied l s id body) ≡ moved_past_body l s id body (length s)
  length-bodied = go (eqb (length body) (func_of l s id).size) refl ∙ sym length_moved
    where
      go : (b : Bool) → eqb (length body) (func_of l s id).size ≡ b
          → length (pick b (sets s (func_of l s id).begin body) (resize l id body s)) ≡ length s - (func_of l s id).size + length body
      go true t = length-sets s (func_of l s id).begin body ∙ omega (arith, ends, eqb-true (length body) (func_of l s id).size t)
      go false t = length-resize

pub length_patched : (l : Layout) (s : List ℕ) (id : ℕ) (body : List ℕ) → Admitted l s → id < functions_in s
    → (length (patched_body l s id body) ≡ moved_past_body l s id body (length s)) × (128 ≤ moved_past_body l s id body (length s))
unfolding patched_body
length_patched l s id body ok k =
    let b = body_ends l s ok id k in
    let n = length-bodied l s id body (omega (arith, b)) in
    let m : 128 ≤ moved_past_body l s id body (length s)
    = rw (length_moved l s id body (omega (arith, b))) (omega (arith, b, body_starts l s ok id k)) in
    (length_finalized (bodied l s id body) (omega (arith, n, m)) ∙ n, m)

-- ---- 9 to 12: each record holds what the tests so far have found

-- function id of an admitted image, as code holds it
pub record Chosen (l : Layout) (s : List ℕ) (id : ℕ) (f : Function) : Type 0 where
  pub admitted : Admitted l s
  pub known : id < functions_in s
  pub is : FunctionIs l s id f

-- no other body and no info place is in the way
pub record LeftAlone (l : Layout) (s : List ℕ) (id : ℕ) (body : List ℕ) (f : Function) : Type 0 where
  pub chosen : Chosen l s id f
  pub alone : both (body_alone l s id) (infos_outside l s id) ≡ true

-- nor is the debug offset
pub record Clear (l : Layout) (s : List ℕ) (id : ℕ) (body : List ℕ) (f : Function) : Type 0 where
  pub alone : LeftAlone l s id body f
  pub debug : debug_past l s id ≡ true

-- nor is a body put in the place of nothing
pub record Grounded (l : Layout) (s : List ℕ) (id : ℕ) (body : List ℕ) (f : Function) : Type 0 where
  pub clear : Clear l s id body f
  pub some : from_nothing (func_of l s id).size (length body) ≡ false

-- nor is the result too long
pub record Short (l : Layout) (s : List ℕ) (id : ℕ) (body : List ℕ) (f : Function) : Type 0 where
  pub grounded : Grounded l s id body f
  pub limit : ltb size_limit (moved_past_body l s id body (length s)) ≡ false

-- and the record of the function holds the new size
pub record Held (l : Layout) (s : List ℕ) (id : ℕ) (body : List ℕ) (f : Function) : Type 0 where
  pub short : Short l s id body f
  pub size : size_fits l s id body ≡ true

module _ (l : Layout) (s : List ℕ) (id : ℕ) (body : List ℕ) where
  abbrev len : ℕ
  len = moved_past_body l s id body (length s)

  abbrev judged : Result ℕ ℕ
  judged = answer_for (judge (body_checks l s id body)) len

  -- the checks after the first two
  abbrev later : ℕ
  later =
      pick (not (debug_past l s id)) 9
      (pick (from_nothing (func_of l s id).size (length body)) 10
      (pick (ltb size_limit len) 11 (pick (not (size_fits l s id body)) 12
      (pick (not (fields_fit l s (moved_past_body l s id body))) 12 0))))

module _ {l : Layout} {s : List ℕ} {id : ℕ} {f : Function} (body : List ℕ) (z : Chosen l s id f) where
  new_length_lem : length s - f.size + length body ≡ len l s id body
  new_length_lem =
      let e : f.size ≡ (func_of l s id).size = ap (λ (x : Func). x.size) z.is.is in
      rw e (sym (length_moved l s id body (omega (arith, body_ends l s z.admitted id z.known))))

  module _ (a : Bool) (e : a ≡ both (body_alone l s id) (infos_outside l s id)) where
    pub not_alone : not a ≡ true → Err 9 ≡ judged l s id body
    unfolding judge
    not_alone h =
        ap (λ (n : ℕ). answer_for n (len l s id body))
        (sym (two_no (body_alone l s id) (infos_outside l s id) (later l s id body) (sym e ∙ not-true a h)))

    pub is_alone_lem : not a ≡ false → LeftAlone l s id body f
    is_alone_lem h = record { chosen = z; alone = sym e ∙ not-false a h }

module _ {l : Layout} {s : List ℕ} {id : ℕ} {body : List ℕ} {f : Function} where
  after : LeftAlone l s id body f → judged l s id body ≡ answer_for (later l s id body) (len l s id body)
  unfolding judge
  after z =
      ap (λ (n : ℕ). answer_for n (len l s id body))
      (two_yes (body_alone l s id) (infos_outside l s id) (later l s id body) z.alone)

  module _ (z : LeftAlone l s id body f) (b : Bool)
      (e : b ≡ implies (not (eqb (debug_in l s) 0)) (leb (f.begin + f.size) (debug_in l s))) where
    debug-is : debug_past l s id ≡ b
    unfolding debug_past
    debug-is =
        sym (e ∙ ap (λ (x : Func). implies (not (eqb (debug_in l s) 0)) (leb (threshold x) (debug_in l s))) z.chosen.is.is)

    pub debug_before : not b ≡ true → Err 9 ≡ judged l s id body
    debug_before h = sym (after z ∙ rw (debug-is, not-true b h))

    pub is_clear : not b ≡ false → Clear l s id body f
    is_clear h = record { alone = z; debug = debug-is ∙ not-false b h }

  module _ (z : Clear l s id body f) (c : Bool) (e : c ≡ from_nothing f.size (length body)) where
    nothing_is : from_nothing (func_of l s id).size (length body) ≡ c
    nothing_is = sym (e ∙ ap (λ (x : Func). from_nothing x.size (length body)) z.alone.chosen.is.is)

    pub put_in_nothing : c ≡ true → Err 10 ≡ judged l s id body
    put_in_nothing h = sym (after z.alone ∙ rw (z.debug, nothing_is, h))

    pub is_grounded : c ≡ false → Grounded l s id body f
    is_grounded h = record { clear = z; some = nothing_is ∙ h }

  module _ (z : Grounded l s id body f) (d : Bool) (e : d ≡ ltb size_limit (length s - f.size + length body)) where
    long-is : ltb size_limit (len l s id body) ≡ d
    long-is = sym (e ∙ ap (λ (n : ℕ). ltb size_limit n) (new_length_lem body z.clear.alone.chosen))

    pub too_long : d ≡ true → Err 11 ≡ judged l s id body
    too_long h = sym (after z.clear.alone ∙ rw (z.clear.debug, z.some, long-is, h))

    pub is-short : d ≡ false → Short l s id body f
    is-short h = record { grounded = z; limit = long-is ∙ h }

  pub short_enough : Short l s id body f → length s - f.size + length body ≤ size_limit
  short_enough z =
      omega
      (arith, new_length_lem body z.grounded.clear.alone.chosen, ltb-false size_limit (len l s id body) z.limit)

  module _ (z : Short l s id body f) (x : Bool) (e : x ≡ either f.large (not (beyond (size_row l) (length body)))) where
    size_is : size_fits l s id body ≡ x
    unfolding size_fits
    size_is =
        let t : FunctionIs l s id f = z.grounded.clear.alone.chosen.is in
        sym (e ∙ ap (λ (x : Func). either x.large (not (beyond (size_row l) (length body)))) t.is)

    pub size-beyond : not x ≡ true → Err 12 ≡ judged l s id body
    size-beyond h =
        let g : Grounded l s id body f = z.grounded in
        sym (after g.clear.alone ∙ rw (g.clear.debug, g.some, z.limit, size_is, not-true x h))

    pub is_held : not x ≡ false → Held l s id body f
    is_held h = record { short = z; size = size_is ∙ not-false x h }

  module _ (z : Held l s id body f) (y : Bool) (e : y ≡ fields_fit l s (moved (f.begin + f.size) (f.begin + length body))) where
    chosen_of : Chosen l s id f
    chosen_of = z.short.grounded.clear.alone.chosen

    fields_are : fields_fit l s (moved_past_body l s id body) ≡ y
    fields_are = sym (e ∙ ap (λ (x : Func). fields_fit l s (moved (threshold x) (x.begin + length body))) chosen_of.is.is)

    -- the last test decides
    last : judged l s id body ≡ answer_for (pick (not y) 12 0) (len l s id body)
    last =
        let g : Grounded l s id body f = z.short.grounded in
        after g.clear.alone ∙ rw (g.clear.debug, g.some, z.short.limit, z.size, fields_are)

    pub fields_beyond : not y ≡ true → Err 12 ≡ judged l s id body
    fields_beyond h = sym (last ∙ rw (not-true y h))

    pub all_fit : not y ≡ false → Ok (length s - f.size + length body) ≡ judged l s id body
    all_fit h = ap Ok (new_length_lem body chosen_of) ∙ sym (last ∙ rw (not-false y h))

-- ---- all refusals

-- the image is admitted with these places, and has a function id
pub record FunctionKnown (l : Layout) (s : List ℕ) (id : ℕ) (p : Places) : Type 0 where
  pub bytes : (i : ℕ) → get_or s i 0 < 256
  pub laid : admission l s ≡ Ok p
  pub known : id < p.functions

module _ (l : Layout) (s : List ℕ) (id : ℕ) (body : List ℕ) where
  answer_is : answered (patch_body l s id body) ≡ answer_for (body_refusal l s id body) (length (patched_body l s id body))
  unfolding patch_body
  answer_is = go (eqb (body_refusal l s id body) 0)
    where
      go : (b : Bool) → answered (pick b (made (patched_body l s id body)) (refused (body_refusal l s id body)))
          ≡ pick b (Ok (length (patched_body l s id body))) (Err (body_refusal l s id body))
      go true = refl
      go false = refl

  in_order : body_refusal l s id body ≡ pick (eqb (refusal l s) 0) (judge (check 7 (leb (functions_in s) id) ∷ body_checks l s id body))
      (refusal l s)
  unfolding body_refusal
  in_order = judged_then l s (check 7 (leb (functions_in s) id) ∷ body_checks l s id body)

  module _ (a : Result Places ℕ) (e : a ≡ admission l s) where
    pub image_refused : (k : ℕ) → a ≡ Err k → Err k ≡ answered (patch_body l s id body)
    image_refused k h =
        let (z, some) = refused_is l s a e k h in
        let y : eqb k 0 ≡ false = ne_eqb k 0 (λ q. omega arith) in
        sym (answer_is ∙ rw (in_order, z, y, y))

    module _ (p : Places) (h : a ≡ Ok p) where
      passed : refusal l s ≡ 0
      passed = (laid-is l s a e p h).0

      places_are : p ≡ places_of l s
      places_are = (laid-is l s a e p h).1

      own : body_refusal l s id body ≡ judge (check 7 (leb (functions_in s) id) ∷ body_checks l s id body)
      own = in_order ∙ rw (eq-eqb (refusal l s) 0 passed)

      pub no_function_lem : p.functions ≤ id → Err 7 ≡ answered (patch_body l s id body)
      unfolding judge
      no_function_lem k = sym (answer_is ∙ rw (own, le-leb (functions_in s) id (omega (arith, functions_are l s p places_are))))

      pub is_known : id < p.functions → id < functions_in s
      is_known k = omega (arith, functions_are l s p places_are)

  module _ {p : Places} (z : FunctionKnown l s id p) where
    ok : Admitted l s
    ok = admission-laws.admitted l s z.bytes (passed (admission l s) refl p z.laid)

    known : id < functions_in s
    known = is_known (admission l s) refl p z.laid z.known

    layout_of : p.layout ≡ l
    layout_of = layout_is l s p (places_are (admission l s) refl p z.laid)

    -- what is asked for the rest
    pub function-asked : Readable l s × (id < functions_in s)
    function-asked = (readable l s ok, known)

    pub body_asked : (f : Function) → (as_func f ≡ func_of l s id) × WordSized f
        → places.Laid p s × ((id < functions_in s) × FunctionIs p.layout s id f)
    body_asked f q = (
      is-laid l s (admission l s) refl p z.laid z.bytes,
      (known, subst (λ (x : Layout). FunctionIs x s id f) (sym layout_of) (record { is = q.0; sized = q.1 })),
    )

    pub body_judged : (r : Result ℕ ℕ)
        → r ≡ answer_for (judge (body_checks p.layout s id body)) (moved_past_body p.layout s id body (length s))
        → r ≡ answered (patch_body l s id body)
    unfolding judge
    body_judged r q =
        subst (λ (x : Layout). r ≡ answer_for (judge (body_checks x s id body)) (moved_past_body x s id body (length s))) layout_of q
        ∙ ap (λ (n : ℕ). answer_for (judge (body_checks l s id body)) n) (sym (length_patched l s id body ok known).0)
        ∙ sym (answer_is ∙ rw (own (admission l s) refl p z.laid, lt-leb (functions_in s) id known))

  -- ---- what is accepted

  -- no check is met
  accepts : (n : ℕ) → Ok n ≡ answered (patch_body l s id body) → (body_refusal l s id body ≡ 0)
      × (n ≡ length (patched_body l s id body))
  accepts n e = go (eqb (body_refusal l s id body) 0) refl (e ∙ answer_is)
    where
      go : (b : Bool) → eqb (body_refusal l s id body) 0 ≡ b
          → Ok n ≡ pick b (Ok (length (patched_body l s id body))) (Err (body_refusal l s id body))
          → (body_refusal l s id body ≡ 0) × (n ≡ length (patched_body l s id body))
      go true t q = (eqb-true (body_refusal l s id body) 0 t, cc)
      go false t q = let z : ◌≡◌ {A = ℕ} 0 1 = cc in absurd (omega arith)

  admitted : body_refusal l s id body ≡ 0 → (refusal l s ≡ 0)
      × (judge (check 7 (leb (functions_in s) id) ∷ body_checks l s id body) ≡ 0)
  unfolding body_refusal
  admitted = judged_none l s (check 7 (leb (functions_in s) id) ∷ body_checks l s id body)

  module _ (n : ℕ) (e : Ok n ≡ answered (patch_body l s id body)) where
    pub makes : (patch_body l s id body ≡ made (patched_body l s id body)) × (n ≡ length (patched_body l s id body))
    unfolding patch_body
    makes = let z = accepts n e in (rw (eq-eqb (body_refusal l s id body) 0 z.0), z.1)

    pub accepted : ((i : ℕ) → get_or s i 0 < 256) → Accepted l s id body n
    accepted bytes =
        let z = accepts n e in
        let (image, e₀) = admitted z.0 in
        let (known, e₁) = judge_pass _ _ (omega arith) e₀ in
        let (alone, e₂) = judge_pass _ _ (omega arith) e₁ in
        let (infos, e₃) = judge_pass _ _ (omega arith) e₂ in
        let (debug, e₄) = judge_pass _ _ (omega arith) e₃ in
        let (some, e₅) = judge_pass _ _ (omega arith) e₄ in
        let (long, e₆) = judge_pass _ _ (omega arith) e₅ in
        let (sized, e₇) = judge_pass _ _ (omega arith) e₆ in
        let (fields, e₈) = judge_pass _ _ (omega arith) e₇ in
        let ok : Admitted l s = admission-laws.admitted l s bytes image in
        let g : id < functions_in s = leb-false (functions_in s) id known in
        let m : n ≡ moved_past_body l s id body (length s) = z.1 ∙ (length_patched l s id body ok g).0 in
        record {
          admitted = ok;
          known = g;
          some = some;
          exact = m;
          limit = omega
              (arith, m, ltb-false size_limit (moved_past_body l s id body (length s)) long);
          sized = not-false _ sized;
          fields = not-false _ fields;
        }
