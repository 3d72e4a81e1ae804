-- The pass over the kinds.
use mathlib.Core.Path.{◌≡◌, refl, sym, ◌∙◌, ap}
use mathlib.Core.Bool.{false}
use mathlib.Core.List.{List}
use Prim.Native.Nat.{ℕ, ◌+◌}
use lib.Dec.{eqb}
use borrow.Author.Tests.{eq-eqb, ne_eqb}
use Rattle.bits.specs.Choice.{sum_below}
use Rattle.bits.proofs.TestLaws.{sum_next}
use Rattle.format.specs.declared.Layout.{Layout}
use Rattle.format.specs.Table.{kind_entry}
use Rattle.format.specs.Number.{entry_in}
use Rattle.image.specs.Sections.{kinds_in, kinds_at}
use Rattle.image.specs.Kinds.{kind_in, run_of, identifier_run, covered, identified}
use Rattle.sections.specs.declared.Places.{Places}
use Rattle.sections.specs.Places.{Placed}
use Rattle.sections.proofs.SectionLaws.{sectioned}
use Rattle.string_tables.specs.Kinds.{kinds_good}

pub none-covered : (w : ℕ → ℕ) → (◌≡◌ {A = ℕ} 0 (covered w 0)) × (◌≡◌ {A = ℕ} 0 (identified w 0))
unfolding covered identified sum_below
none-covered w = (refl, refl)

-- one more kind word x, with its run and its identifiers
module _ (w : ℕ → ℕ) (k x : ℕ) (e : x ≡ w k) where
  pub covered_next : (n r : ℕ) → n ≡ covered w k → r ≡ run_of x → n + r ≡ covered w (k + 1)
  unfolding covered
  covered_next n r h g = rw (h, g, e) (sym (sum_next (λ j. run_of (w j)) k))

  pub identified_next : (n r : ℕ) → n ≡ identified w k → r ≡ identifier_run x → n + r ≡ identified w (k + 1)
  unfolding identified
  identified_next n r h g = rw (h, g, e) (sym (sum_next (λ j. identifier_run (w j)) k))

-- the kind words of an image
kind_words : (l : Layout) (s : List ℕ) → kind_in l s ≡ entry_in (kinds_at l s) kind_entry s
unfolding kind_in
kind_words l s = refl

-- n strings and m identifiers are what the kinds of the image cover
module _ (p : Places) (s : List ℕ) (h : Placed p s) (n m : ℕ)
    (sums : (n ≡ covered (entry_in p.kinds_at kind_entry s) p.kinds)
    × (m ≡ identified (entry_in p.kinds_at kind_entry s) p.kinds)) where
  words : entry_in p.kinds_at kind_entry s ≡ kind_in p.layout s
  words = ap (λ (at : ℕ). entry_in at kind_entry s) (sectioned p s h).kinds_from ∙ sym (kind_words p.layout s)

  both_sums : (n ≡ covered (kind_in p.layout s) (kinds_in s)) × (m ≡ identified (kind_in p.layout s) (kinds_in s))
  both_sums =
      let k : p.kinds ≡ kinds_in s = (sectioned p s h).kinds in (
        sums.0 ∙ ap (λ (w : ℕ → ℕ). covered w p.kinds) words ∙ ap (λ (j : ℕ). covered (kind_in p.layout s) j) k,
        sums.1 ∙ ap (λ (w : ℕ → ℕ). identified w p.kinds) words ∙ ap (λ (j : ℕ). identified (kind_in p.layout s) j) k,
      )

  pub strings_differ : (n ≡ p.strings → ⊥) → false ≡ kinds_good p.layout s
  unfolding kinds_good
  strings_differ g = rw (← both_sums.0, ← (sectioned p s h).strings, ne_eqb n p.strings g)

  pub strings_agree : n ≡ p.strings → eqb m p.identifiers ≡ kinds_good p.layout s
  unfolding kinds_good
  strings_agree g =
      rw (← both_sums.0, ← both_sums.1, ← (sectioned p s h).strings, ← (sectioned p s h).identifiers, eq-eqb n p.strings g)
