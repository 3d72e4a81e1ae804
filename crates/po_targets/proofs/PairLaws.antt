-- The pair of some units: the last that fits. A string's pair is found by the chain of the bucket of its units.
use mathlib.Core.Path.{◌≡◌, refl, ap, sym, ◌∙◌}
use mathlib.Core.Bool.{Bool, true, false, not}
use mathlib.Core.Logic.{◌⊎◌, inl, inr, ◌≢◌}
use mathlib.Core.List.{List}
use Prim.Native.Nat.{ℕ, zero, suc, ◌%◌, ◌≤◌, ◌<◌}
use native.Mathlib.Omega.{arith}
use borrow.Author.Tests.{lt-ltb, le-ltb, ne_eqb, eq-eqb, not-true, not-false}
use lib.Dec.{ltb, eqb}
use lib.ListN.{length}
use Rattle.bits.specs.Choice.{both, implies}
use Rattle.bits.proofs.TestLaws.{which, below, below_or, both_1}
use Rattle.format.specs.declared.Layout.{Layout}
use Rattle.format.specs.Hash.{hash_of}
use Rattle.footer.specs.Footer.{same}
use Rattle.image.specs.Kinds.{is_identifier}
use Rattle.image.specs.Strings.{string_of, units_of}
use Rattle.utf.specs.Utf8.{utf16}
use Rattle.sections.specs.declared.Places.{Places}
use Rattle.sections.specs.Places.{Placed}
use Rattle.string_walk.specs.declared.StringRecord.{StringRecord}
use Rattle.string_walk.specs.Places.{Stands}
use Rattle.string_walk.specs.Records.{is_ranked}
use Rattle.string_walk.proofs.RankLaws.{ranked_flag}
use Rattle.string_find.specs.Find.{units_at}
use Rattle.footer.proofs.SameLaws.{same-is}
use Rattle.string_find.proofs.FindLaws.{units_stand}
use Rattle.chains.specs.Chains.{head_of}
use Rattle.chains.proofs.WalkLaws.{Walked, walk_from, walk_end, walk_lower, walk_on}
use Rattle.po_targets.specs.Targets.{applied, fits, pair_for, target_of}
use Rattle.po_targets.specs.Marks.{bucket_of}

-- ---- the bucket that a string's hash names

-- the bucket of a string
pub string_bucket : (p : Places) (s : List ℕ) → Placed p s → (i : ℕ) (r : StringRecord) → Stands p s i r → (m h : ℕ)
    → h ≡ hash_of (units_at s r.start r.place.wide 0 r.place.count)
    → h % m ≡ bucket_of m (units_of (string_of p.layout s i))
string_bucket p s pl i r g m h e = rw (units_stand p s pl i r g, e)

-- ---- pairs that are applied

module _ (id str v : List ℕ) (e : v ≡ id) where
  pub header : length v ≡ 0 → false ≡ applied id str
  unfolding applied
  header z = rw (le-ltb 0 (length id) (omega (arith, ap length e)))

  pub by_text : (w : List ℕ) → w ≡ str → length v ≢ 0 → not (eqb (length w) 0) ≡ applied id str
  unfolding applied
  by_text w f d = rw (f, lt-ltb 0 (length id) (omega (arith, d, ap length e))) (go (below_or 0 (length str)))
    where
      go : (0 < length str) ⊎ (length str ≤ 0) → not (eqb (length str) 0) ≡ ltb 0 (length str)
      go (inl l) = rw (lt-ltb 0 (length str) l, ne_eqb (length str) 0 (λ z. omega arith))
      go (inr l) = rw (le-ltb 0 (length str) l, eq-eqb (length str) 0 (omega arith))

-- as the code asks it first
module _ (r a : Bool) (e : r ≡ a) where
  pub set_aside : (b : Bool) → not r ≡ true → true ≡ implies a b
  set_aside b n = rw (← e, not-true r n)

  pub asked_for_lem : (b : Bool) → not r ≡ false → b ≡ implies a b
  asked_for_lem b n = rw (← e, not-false r n)

  pub fits_not : (b : Bool) → not r ≡ true → false ≡ both a b
  fits_not b n = rw (← e, not-true r n)

  pub fits_by : (b : Bool) → not r ≡ false → b ≡ both a b
  fits_by b n = rw (← e, not-false r n)

-- ---- the pair of some units

module _ (ids strs : ℕ → List ℕ) (units : List ℕ) where
  abbrev pub Fits : ℕ → Type 0
  Fits q = fits ids strs units q ≡ true

  pub fits_units : (q : ℕ) → Fits q → units ≡ utf16 (ids q)
  fits_units q t = same-is units (utf16 (ids q)) (both_1 (applied (ids q) (strs q)) (same units (utf16 (ids q))) t)

  -- so it has the bucket of the units
  pub fits_bucket : (m q : ℕ) → Fits q → bucket_of m (utf16 (ids q)) ≡ bucket_of m units
  fits_bucket m q t = ap (bucket_of m) (sym (fits_units q t))

  pub pair_own : (k q : ℕ) → pair_for ids strs units k ≡ suc q → (q < k) × Fits q
  unfolding pair_for
  pair_own zero q e = absurd (omega arith)
  pair_own (suc k) q e =
      elim (which (fits ids strs units k)) [
        | inl t ↦ let x : k ≡ q = omega (arith, rw t at e) in (omega arith, rw x at t)
        | inr f ↦ let z = pair_own k q (rw f at e) in (omega (arith, z.0), z.1)
      ]

  -- none behind the last that fits
  pub pair_past : (k q : ℕ) → q < k → Fits q → q < pair_for ids strs units k
  unfolding pair_for
  pair_past zero q h t = absurd (omega arith)
  pair_past (suc k) q h t =
      elim (which (fits ids strs units k)) [
        | inl e ↦ rw e h
        | inr f ↦ rw f (elim (below q k h) [
          | inl e ↦ absurd (let x : Fits k = rw e at t in let z : ◌≡◌ {A = ℕ} 0 1 = cc in omega arith)
          | inr l ↦ pair_past k q l t
        ])
      ]

  pub pair_none : (k : ℕ) → ((q : ℕ) → q < k → Fits q → ⊥) → 0 ≡ pair_for ids strs units k
  pair_none k none = go (pair_for ids strs units k) refl
    where
      go : (x : ℕ) → pair_for ids strs units k ≡ x → 0 ≡ x
      go zero e = refl
      go (suc q) e = let z = pair_own k q e in absurd (none q z.0 z.1)

  pub pair_is : (k q : ℕ) → q < k → Fits q → ((j : ℕ) → suc q ≤ j → j < k → Fits j → ⊥)
      → suc q ≡ pair_for ids strs units k
  pair_is k q h t none = go (pair_for ids strs units k) refl
    where
      go : (x : ℕ) → pair_for ids strs units k ≡ x → suc q ≡ x
      go zero e = absurd (omega (arith, pair_past k q h t))
      go (suc j) e =
          let z = pair_own k j e in
          elim (below_or q j) [
            | inl l ↦ absurd (none j l z.0 z.1)
            | inr l ↦ omega (arith, pair_past k q h t)
          ]

-- ---- the pair of a string

-- as its record says
pub identifier_by : (p : Places) (s : List ℕ) (i : ℕ) (r : StringRecord) → Stands p s i r → (b : Bool) → b ≡ is_ranked r.rank
    → is_identifier p.layout s i ≡ b
identifier_by p s i r g b e = sym (e ∙ ap is_ranked g.rank ∙ ranked_flag p.layout s i)

module _ (l : Layout) (s : List ℕ) (ids strs : ℕ → List ℕ) (k i : ℕ) where
  pub target_identifier : is_identifier l s i ≡ true → 0 ≡ target_of l s ids strs k i
  unfolding target_of
  target_identifier t = rw t

  pub target_plain : is_identifier l s i ≡ false → pair_for ids strs (units_of (string_of l s i)) k ≡ target_of l s ids strs k i
  unfolding target_of
  target_plain f = rw f

-- ---- the walk down the chain of the units' bucket, all pairs being entered

module _ (ids strs : ℕ → List ℕ) (units : List ℕ) (m k : ℕ) where
  abbrev pub Down : ℕ → Type 0
  Down c = Walked (λ q. true) (λ q. bucket_of m (utf16 (ids q))) (Fits ids strs units) (bucket_of m units) k c

  owned : (q : ℕ) → q < k → Fits ids strs units q → bucket_of m (utf16 (ids q)) ≡ bucket_of m units
  owned q h t = fits_bucket ids strs units m q t

  pub down_from : (b c : ℕ) → b ≡ bucket_of m units → c ≡ head_of (λ q. true) (λ q. bucket_of m (utf16 (ids q))) b k → Down c
  down_from b c f e =
      walk_from (λ q. true) (λ q. bucket_of m (utf16 (ids q))) (Fits ids strs units) (bucket_of m units) k owned c (rw f at e)

  module _ (c : ℕ) (w : Down c) where
    pub down_end : c ≤ 0 → 0 ≡ pair_for ids strs units k
    down_end e =
        pair_none ids strs units k (λ q h t.
        walk_end (λ q. true) (λ q. bucket_of m (utf16 (ids q))) (Fits ids strs units) (bucket_of m units) k owned c w e q h refl t)

    module _ (q : ℕ) (e : c ≡ suc q) where
      pub down_is : fits ids strs units q ≡ true → c ≡ pair_for ids strs units k
      down_is t = e ∙ pair_is ids strs units k q (w.own q e).0 t (λ j l h f. w.past j (omega arith) h refl f)

      module _ (d : ℕ) (f : d ≡ head_of (λ q. true) (λ q. bucket_of m (utf16 (ids q))) (bucket_of m (utf16 (ids q))) q) where
        pub down_lower : d < c
        down_lower =
            walk_lower (λ q. true) (λ q. bucket_of m (utf16 (ids q))) (Fits ids strs units) (bucket_of m units) k owned c w q e d f

        pub down_on : fits ids strs units q ≡ false → Down d
        down_on n =
            walk_on (λ q. true) (λ q. bucket_of m (utf16 (ids q))) (Fits ids strs units) (bucket_of m units) k owned c w q e d f
            (λ t. let z : ◌≡◌ {A = ℕ} 0 1 = cc in omega arith)
