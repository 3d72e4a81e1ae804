-- The walk for a string of the same value, among those that are written: it meets none, or the value is there before.
use mathlib.Core.Path.{◌≡◌, ap, sym, ◌∙◌, subst⁻¹}
use mathlib.Core.Bool.{Bool, true, false}
use mathlib.Core.List.{List}
use Prim.Native.Nat.{ℕ, suc, ◌+◌, ◌-◌, ◌%◌, ◌≤◌, ◌<◌}
use native.Mathlib.Nat.{mod-lt}
use native.Mathlib.Omega.{arith}
use lib.ListN.{get_or}
use Rattle.format.specs.Hash.{hash_of}
use Rattle.footer.specs.Footer.{same}
use Rattle.chains.specs.Chains.{head_of}
use Rattle.chains.proofs.WalkLaws.{Walked, walk_from, walk_end, walk_lower, walk_on}
use Rattle.sections.specs.declared.Places.{Places}
use Rattle.sections.proofs.SectionLaws.{Sectioned, sectioned}
use Rattle.footer.proofs.SameLaws.{same-is, same_self}
use Rattle.po_strings.specs.declared.Text.{Text}
use Rattle.po_strings.specs.Texts.{Inside, units_in}
use Rattle.po_write.specs.Strings.{value_of, is_first, is_written}
use Rattle.po_write.specs.Work.{bucket_of, text_at, Kept, Sought}
use Rattle.po_write.proofs.FirstLaws.{not_first, is_first_lem}

module _ (p : Places) (s : List ℕ) (id : ℕ) where
  abbrev SameValue : ℕ → Type 0
  SameValue j = value_of p.layout s j ≡ value_of p.layout s id

  -- the walk down the bucket of string `id` has come to a cursor
  abbrev pub Walks : ℕ → Type 0
  Walks c =
      Walked (is_written p.layout s) (bucket_of p.layout s p.strings) SameValue (bucket_of p.layout s p.strings id) id c

  -- equal values have one bucket
  owned : (j : ℕ) → j < id → SameValue j → bucket_of p.layout s p.strings j ≡ bucket_of p.layout s p.strings id
  unfolding bucket_of
  owned j h e = ap (λ (v : List ℕ). hash_of v % p.strings) e

  module _ (w : List ℕ) (b : ℕ) (t : Text) (q : Sought p s w id b t) where
    pub bucket_low : b < p.strings
    unfolding bucket_of
    bucket_low = rw q.chain (mod-lt (hash_of (value_of p.layout s id)) (omega (arith, q.known)))

    pub few_words : p.strings < 4294967296
    few_words = let z : Sectioned p s = sectioned p s q.laid.placed in omega arith

    pub walks_from : (c : ℕ) → c ≡ get_or w b 0 → Walks c
    walks_from c e =
        walk_from _ _ SameValue _ id owned c
        (e ∙ q.filled.chained.heads b bucket_low
        ∙ ap (λ (x : ℕ). head_of (is_written p.layout s) (bucket_of p.layout s p.strings) x id) q.chain)

    module _ (c : ℕ) (k : Walks c) where
      pub none_there : c ≤ 0 → true ≡ is_first p.layout s id
      none_there h = sym (is_first_lem p.layout s id q.held (walk_end _ _ SameValue _ id owned c k h))

      module _ (h : 0 < c) where
        abbrev j : ℕ
        j = c - 1

        is-suc : c ≡ suc j
        is-suc = omega arith

        -- the cursor stands on a written string before this one
        pub before : j < id
        before = (k.own j is-suc).0

        there : is_written p.layout s j ≡ true
        there = (k.own j is-suc).1.0

        module _ (other : Text) (e : other ≡ text_at w p.strings j) where
          kept : Kept p.layout s w p.strings j
          kept = q.filled.kept j before there

          pub other_inside : Inside s other
          other_inside = subst⁻¹ (λ (x : Text). Inside s x) e kept.inside

          units_are : (units_in s other ≡ value_of p.layout s j) × (units_in s t ≡ value_of p.layout s id)
          units_are = (ap (λ (x : Text). units_in s x) e ∙ kept.units, q.units)

          module _ (r : Bool) (f : r ≡ same (units_in s other) (units_in s t)) where
            pub value_there : r ≡ true → false ≡ is_first p.layout s id
            value_there g =
                let v = same-is (units_in s other) (units_in s t) (sym f ∙ g) in
                sym (not_first p.layout s id j before there (sym units_are.0 ∙ v ∙ units_are.1))

            other_value : r ≡ false → SameValue j → ⊥
            other_value g v =
                let x : units_in s other ≡ units_in s t = units_are.0 ∙ v ∙ sym units_are.1 in
                let y : same (units_in s other) (units_in s t) ≡ true = rw x (same_self (units_in s t)) in
                let z : ◌≡◌ {A = ℕ} 0 1 = cc in
                omega arith

            module _ (d : ℕ) (n : d ≡ get_or w (p.strings + j) 0) where
              link : d ≡ head_of (is_written p.layout s) (bucket_of p.layout s p.strings) (bucket_of p.layout s p.strings j) j
              link = n ∙ q.filled.chained.links j before there

              pub walks_on : r ≡ false → Walks d
              walks_on g = walk_on _ _ SameValue _ id owned c k j is-suc d link (other_value g)

              pub walks_lower : d < c
              walks_lower = walk_lower _ _ SameValue _ id owned c k j is-suc d link
