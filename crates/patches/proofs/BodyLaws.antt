-- One accepted body patch, of equal or of another length: what it promises.
use mathlib.Core.Path.{◌≡◌, refl, sym, ◌∙◌}
use mathlib.Core.Bool.{Bool, true, false, not}
use mathlib.Core.Logic.{inl, inr, ◌≢◌}
use mathlib.Core.List.{List, [], ◌∷◌}
use Prim.Native.Nat.{ℕ, ◌+◌, ◌-◌, ◌≤◌, ◌<◌}
use native.Mathlib.Omega.{arith}
use borrow.Author.Tests.{eq-eqb, ne_eqb, eqb-true, eqb-false, leb-true, leb-false, ltb-false, lt-ltb, not-true}
use lib.Dec.{leb, ltb, eqb}
use lib.ListN.{length, length-append, length-drop}
use lib.Seq.{sets, length-sets, length-take-le}
use Rattle.bits.specs.Choice.{pick, both, implies}
use Rattle.bits.proofs.TestLaws.{which, below_or, both_false, imp_use, all_at}
use Rattle.bits.proofs.ListLaws.{AllBelow}
use Rattle.bits.proofs.WriteLaws.{sets_off}
use Rattle.format.specs.declared.Layout.{Layout}
use Rattle.format.proofs.MoveLaws.{moved-low, moved-high}
use Rattle.footer.specs.Finalize.{size_limit, lengthed, sealed}
use Rattle.image.specs.Sections.{functions_in, identifiers_in, debug_in}
use Rattle.image.specs.Kinds.{hash_in}
use Rattle.image.specs.Functions.{Func, func_of, body_of}
use Rattle.image.specs.Admitted.{Disjoint, Admitted}
use Rattle.edits.specs.Edit.{splice, edit, move_func}
use Rattle.edits.specs.Rebuild.{resized, resize}
use Rattle.edits.specs.Fit.{fields_fit}
use Rattle.image.proofs.PlaceLaws.{ordered, hash_in_lem, string-in}
use Rattle.edits.proofs.WriteLaws.{length_writes}
use Rattle.edits.proofs.SlotLaws.{func_eq}
use Rattle.edits.proofs.ReadLaws.{functions_same, kind_count-same, identifier_count-same, string_count-same, counts_of, tail_at-same}
use Rattle.edits.proofs.FitLaws.{fields_use}
use Rattle.edits.proofs.InPlaceLaws as inplace
use Rattle.edits.proofs.ResizeLaws as resizing
use Rattle.functions.specs.Patch.{threshold, shares_with, body_alone, infos_outside, debug_past, moved_past_body, patched_body, size_fits}
use Rattle.functions.proofs.WriteLaws.{size_held}
use Rattle.patches.specs.Patches.{Target, a_body}
use Rattle.patches.specs.Promise.{place_after, function_after, Unmoved, Kept, Promise}
use Rattle.patches.proofs.CalmLaws.{final_calm, final_hash, final_sealed, kept_after}
use Rattle.patches.proofs.InPlaceLaws.{moved_still}

-- a body patch of an admitted image that no check refuses
pub record BodyPassed (l : Layout) (s : List ℕ) (id : ℕ) (body : List ℕ) : Type 0 where
  pub admitted : Admitted l s
  pub known : id < functions_in s
  pub bytes : AllBelow 256 body
  -- 9
  pub alone : body_alone l s id ≡ true
  pub infos : infos_outside l s id ≡ true
  pub debug : debug_past l s id ≡ true
  -- 10
  pub empty : both (eqb (func_of l s id).size 0) (ltb 0 (length body)) ≡ false
  -- 11
  pub limit : moved_past_body l s id body (length s) ≤ size_limit
  -- 12
  pub size : size_fits l s id body ≡ true
  pub field : fields_fit l s (moved_past_body l s id body) ≡ true

module _ (l : Layout) (s : List ℕ) (id : ℕ) (body : List ℕ) (ok : BodyPassed l s id body) where
  abbrev c : Target
  c = a_body id body

  abbrev f₀ : Func
  f₀ = func_of l s id

  ad : Admitted l s
  ad = ok.admitted

  -- ---- 9, in propositions

  -- another body lies before this one or past it, where this one is not empty
  apart : 0 < f₀.size → (j : ℕ) → j < functions_in s → j ≢ id
      → Disjoint (func_of l s j).begin (func_of l s j).size f₀.begin f₀.size
  unfolding body_alone
  apart z j h d q =
      let g : Func = func_of l s j in
      let n : shares_with f₀ g ≡ false =
      not-true (shares_with f₀ g)
      (imp_use (not (eqb j id)) (not (shares_with f₀ g))
      (all_at (λ k. implies (not (eqb k id)) (not (shares_with f₀ (func_of l s k)))) (functions_in s) j ok.alone h)
      (rw (ne_eqb j id d))) in
      let x : ltb 0 f₀.size ≡ true = lt-ltb 0 f₀.size z in
      let y : ltb g.begin (threshold f₀) ≡ true = lt-ltb g.begin (threshold f₀) q in
      let m : ltb f₀.begin (threshold g) ≡ false = rw (x, y) at n in
      ltb-false f₀.begin (threshold g) m

  -- ---- "Equal length changes the body bytes, file length and footer only"

  module _ (equal : length body ≡ f₀.size) where
    abbrev w : List ℕ
    w = sets s f₀.begin body

    still : (p : ℕ) → place_after l s c p ≡ p
    still p = rw equal (moved_still (threshold f₀) p)

    written : inplace.InPlace l s f₀.begin body
    written = inplace.body_in_place l s ad id body (record { known = ok.known; equal = equal; bytes = ok.bytes })

    -- an empty body has nothing to write
    body_other : (i : ℕ) → i < functions_in s → i ≢ id → body_of l w i ≡ body_of l s i
    body_other i h d = elim (below_or 0 f₀.size) [
      | inl z ↦ inplace.put-body l s f₀.begin body written i h
          (λ q. elim (below_or (func_of l s i).begin (threshold f₀))
          [ inl g ↦ absurd (omega (arith, apart z i h d g, equal)) | inr g ↦ omega (arith, equal) ])
      | inr z ↦ nothing body (omega arith)
    ]
      where
        nothing : (vs : List ℕ) → length vs ≡ 0 → body_of l (sets s f₀.begin vs) i ≡ body_of l s i
        nothing [] e = refl
        nothing (v ∷ vs) e = absurd (omega arith)

    equal_kept : Kept l s w c
    equal_kept =
        let o = ordered l s in
        let (x, y) = ad.body id ok.known in
        let words = (inplace.put_same l s f₀.begin body written).tabled.words in
        let counts = counts_of l s w words in
        record {
          admitted = inplace.put_admitted l s f₀.begin body written;
          functions = functions_same l s w counts;
          kinds = kind_count-same l s w counts;
          identifiers = identifier_count-same l s w counts;
          strings = string_count-same l s w counts;
          string = λ i h. inplace.put-string l s f₀.begin body written i h (λ q. absurd (omega (arith, string-in ad i h)));
          body = λ i h. elim (which (eqb i id)) [
            | inl t ↦ let e : i ≡ id = eqb-true i id t in rw (e, eq-eqb id id refl)
                (inplace.own_body l s f₀.begin body written id (record { known = ok.known; place = refl; size = sym equal }))
            | inr t ↦ rw t (body_other i h (eqb-false i id t))
          ];
          flag = inplace.put_identifier l s f₀.begin body written;
          rank = inplace.put_rank l s f₀.begin body written;
          function = λ i h.
              inplace.put_func l s f₀.begin body written i h
              ∙ func_eq (func_of l s i) (function_after l s c i (func_of l s i))
              (record {
                large = refl;
                ptr = sym (still (func_of l s i).ptr);
                begin = sym (still (func_of l s i).begin);
                size = elim (which (eqb i id)) [ inl t ↦ rw (t, equal, eqb-true i id t) | inr t ↦ rw t ];
                info = sym (still (func_of l s i).info);
              });
          debug = (inplace.put_same l s f₀.begin body written).debug ∙ sym (still (debug_in l s));
          long = length-sets s f₀.begin body ∙ sym (still (length s));
          tail = λ p h f b q. (
            rw (still p, tail_at-same l s w words) h,
            rw (still p, length-sets s f₀.begin body) f,
            rw (still p)
                (sets_off body s f₀.begin p
                (λ g. elim (below_or p (threshold f₀)) [ inl k ↦ absurd (omega (arith, b k)) | inr k ↦ omega (arith, equal) ])),
          );
        }

    equal_hash : (r : ℕ) → r < identifiers_in s → hash_in l w r ≡ hash_in l s r
    equal_hash r h =
        let o = ordered l s in
        inplace.put-hash l s f₀.begin body written r
        (λ q. absurd (omega (arith, hash_in_lem l s r h, o.over, o.storage, o.tail, (ad.body id ok.known).0)))

  -- ---- another length

  module _ (other : length body ≢ f₀.size) where
    abbrev v : List ℕ
    v = resize l id body s

    some : 0 < f₀.size
    some = elim (below_or 0 f₀.size) [
      | inl h ↦ h
      | inr h ↦
          let z : f₀.size ≡ 0 = omega arith in
          let e : eqb f₀.size 0 ≡ true = eq-eqb f₀.size 0 z in
          absurd (other (omega (arith, ltb-false 0 (length body) (rw e at ok.empty))))
    ]

    info_out : (j : ℕ) → j < functions_in s → (func_of l s j).info < threshold f₀ → (func_of l s j).info < f₀.begin
    unfolding infos_outside
    info_out j h q =
        let i : ℕ = (func_of l s j).info in
        let n : both (leb f₀.begin i) (ltb i (threshold f₀)) ≡ false =
        not-true (both (leb f₀.begin i) (ltb i (threshold f₀)))
        (all_at (λ k. not (both (leb f₀.begin (func_of l s k).info) (ltb (func_of l s k).info (threshold f₀)))) (functions_in s) j
        ok.infos h) in
        elim (both_false (leb f₀.begin i) (ltb i (threshold f₀)) n)
        [ inl t ↦ leb-false f₀.begin i t | inr t ↦ absurd (omega (arith, ltb-false i (threshold f₀) t)) ]

    debug_out : debug_in l s ≢ 0 → threshold f₀ ≤ debug_in l s
    unfolding debug_past
    debug_out d =
        leb-true (threshold f₀) (debug_in l s)
        (imp_use (not (eqb (debug_in l s) 0)) (leb (threshold f₀) (debug_in l s)) ok.debug (rw (ne_eqb (debug_in l s) 0 d)))

    ends : threshold f₀ ≤ length s
    ends = omega (arith, (ad.body id ok.known).1)

    grown : length v ≡ place_after l s c (length s)
    unfolding resize edit splice
    grown =
        simp (length_writes, length-append, length-take-le f₀.begin s (omega (arith, ends)), length-drop)
        (omega (arith, ends, moved-high (threshold f₀) (f₀.begin + length body) (length s) ends))

    asked : resizing.Alone l id body s
    asked = record {
      admitted = ad;
      known = ok.known;
      bytes = ok.bytes;
      bodies = λ j h d. apart some j h d;
      infos = info_out;
      debug = debug_out;
      some = some;
      limit = rw grown ok.limit;
      field = fields_use l s (moved_past_body l s id body) ok.field;
      sized = size_held l s id body ok.size;
    }

    -- the target's start is below the threshold and stays
    stays : place_after l s c f₀.begin ≡ f₀.begin
    stays = moved-low (threshold f₀) (f₀.begin + length body) f₀.begin (omega (arith, some))

    function-put : (i : ℕ) → i < functions_in s → func_of l v i ≡ function_after l s c i (func_of l s i)
    function-put i h = resizing.resized_func l id body s asked i h ∙ go (eqb i id) refl
      where
        go : (b : Bool) → eqb i id ≡ b
            → pick b (resized (place_after l s c) (length body) (func_of l s i)) (move_func (place_after l s c) (func_of l s i))
            ≡ record {
              large = (func_of l s i).large;
              ptr = place_after l s c (func_of l s i).ptr;
              begin = place_after l s c (func_of l s i).begin;
              size = pick b (length body) (func_of l s i).size;
              info = place_after l s c (func_of l s i).info;
            }
        go true t =
            let e : i ≡ id = eqb-true i id t in
            func_eq _ _ (record { large = refl; ptr = refl; begin = rw e (sym stays); size = refl; info = refl })
        go false t = refl

    pub resize_kept : Kept l s v c
    resize_kept =
        let (x, y) = ad.body id ok.known in
        let words = resizing.resized-words l id body s asked in
        let same = counts_of l s v words in
        record {
          admitted = resizing.resized_admitted l id body s asked;
          functions = functions_same l s v same;
          kinds = kind_count-same l s v same;
          identifiers = identifier_count-same l s v same;
          strings = string_count-same l s v same;
          string = resizing.resized-string l id body s asked;
          body = λ i h. elim (which (eqb i id)) [
            | inl t ↦ let e : i ≡ id = eqb-true i id t in rw (e, eq-eqb id id refl) (resizing.own_body l id body s asked)
            | inr t ↦ rw t (resizing.other_body l id body s asked i h (eqb-false i id t))
          ];
          flag = resizing.resized_identifier l id body s asked;
          rank = resizing.resized_rank l id body s asked;
          function = function-put;
          debug = resizing.resized-debug l id body s asked;
          long = grown;
          tail = λ p h f b q.
              let n : length v ≡ length s - threshold f₀ + (f₀.begin + length body)
              = grown ∙ moved-high (threshold f₀) (f₀.begin + length body) (length s) ends in
              elim (below_or p (threshold f₀)) [
                | inl g ↦
                    let m : place_after l s c p ≡ p = moved-low (threshold f₀) (f₀.begin + length body) p g in (
                      rw (m, tail_at-same l s v words) h,
                      omega (arith, m, n, b g, ends),
                      resizing.resized_tail l id body s asked p (record { tail = h; outside = b; clear = q }),
                    )
                | inr g ↦
                    let m : place_after l s c p ≡ p - threshold f₀ + (f₀.begin + length body)
                    = moved-high (threshold f₀) (f₀.begin + length body) p g in (
                      rw (tail_at-same l s v words) (omega (arith, m)),
                      omega (arith, m, n),
                      resizing.resized_tail l id body s asked p (record { tail = h; outside = b; clear = q }),
                    )
              ];
        }

    resize_hash : (r : ℕ) → r < identifiers_in s → hash_in l v r ≡ hash_in l s r
    resize_hash = resizing.resized_hash l id body s asked

  sealed_promise : (x : List ℕ) → Kept l s x c → ((r : ℕ) → r < identifiers_in s → hash_in l x r ≡ hash_in l s r)
      → Promise l s (sealed (lengthed x)) c
  sealed_promise x k h = record {
    kept = kept_after l s x (sealed (lengthed x)) c k (final_calm l x k.admitted);
    hash = λ r g. final_hash l x k.admitted r (rw k.identifiers g) ∙ h r g;
    sealed = final_sealed l x k.admitted;
  }

  -- no string moves
  sealed_unmoved : (x : List ℕ) → Kept l s x c → Unmoved l s x → Unmoved l s (sealed (lengthed x))
  sealed_unmoved x k un i h = (final_calm l x k.admitted).storage.place i (rw k.strings h) ∙ un i h

  -- ---- both ways

  pub body_unmoved : Unmoved l s (patched_body l s id body)
  unfolding patched_body
  body_unmoved = go (eqb (length body) f₀.size) refl
    where
      go : (b : Bool) → eqb (length body) f₀.size ≡ b
          → Unmoved l s (sealed (lengthed (pick b (sets s f₀.begin body) (resize l id body s))))
      go true t =
          let e : length body ≡ f₀.size = eqb-true (length body) f₀.size t in
          sealed_unmoved (sets s f₀.begin body) (equal_kept e) (inplace.put_place l s f₀.begin body (written e))
      go false t =
          let d : length body ≢ f₀.size = eqb-false (length body) f₀.size t in
          sealed_unmoved (resize l id body s) (resize_kept d) (resizing.resized_place_lem l id body s (asked d))

  pub body_promise : Promise l s (patched_body l s id body) c
  unfolding patched_body
  body_promise = go (eqb (length body) f₀.size) refl
    where
      go : (b : Bool) → eqb (length body) f₀.size ≡ b
          → Promise l s (sealed (lengthed (pick b (sets s f₀.begin body) (resize l id body s)))) c
      go true t =
          let e : length body ≡ f₀.size = eqb-true (length body) f₀.size t in
          sealed_promise (sets s f₀.begin body) (equal_kept e) (equal_hash e)
      go false t =
          let d : length body ≢ f₀.size = eqb-false (length body) f₀.size t in
          sealed_promise (resize l id body s) (resize_kept d) (resize_hash d)
