-- Filling and looking up are refused exactly: with n where fault n is there and none before it.
use mathlib.Core.Path.{◌≡◌, refl}
use mathlib.Core.Bool.{true}
use mathlib.Core.Logic.{◌↔◌}
use mathlib.Core.List.{List, [], ◌∷◌, ◌++◌}
use Prim.Native.Nat.{ℕ, ◌<◌}
use lib.Dec.{leb, ltb}
use borrow.Author.Tests.{le-leb, lt-ltb, leb-true, ltb-true}
use Rattle.bits.specs.Choice.{Check, check}
use Rattle.bits.proofs.JudgeLaws.{rising, Named, Shows.nothing, Shows.◌also◌, given, shows_append, shows_map, given_first, given_last}
use Rattle.bits.proofs.JudgeLaws.{judged_exactly, judged_none}
use Rattle.bits.proofs.TestLaws.{either_true}
use Rattle.format.specs.declared.Layout.{Layout}
use Rattle.image.specs.Sections.{strings_in}
use Rattle.image.specs.Admission.{checks}
use Rattle.image.proofs.FaultLaws as image
use Rattle.string_index.specs.Index.{words_for, fill_refusal, look_refusal}
use Rattle.string_index.specs.Faults.{FillFault, bad_image, too_short, LookFault, no_string, few_words}

module _ (l : Layout) (s : List ℕ) (words : ℕ) where
  abbrev last : Check
  last = check 13 (ltb words (words_for (strings_in s)))

  fill_gives : (n : ℕ) → FillFault l s words n → given n (checks l s ++ (last ∷ [])) ≡ true
  fill_gives k (bad_image n f) = given_first n (checks l s) (last ∷ []) (image.gives l s n f)
  fill_gives k (too_short h) = given_last 13 (checks l s) (last ∷ []) (rw (lt-ltb words (words_for (strings_in s)) h))

  numbers_rise : rising 1 13 (checks l s ++ (last ∷ [])) ≡ true
  unfolding checks
  numbers_rise = refl

  fill_named : Named (FillFault l s words) 13 (checks l s ++ (last ∷ []))
  fill_named =
      record {
        up = numbers_rise;
        shows =
            shows_append (FillFault l s words) (checks l s) (last ∷ [])
            (shows_map _ (FillFault l s words) (checks l s) bad_image (image.shows l s))
            ((λ t. too_short (ltb-true words (words_for (strings_in s)) t)) also nothing);
        gives = fill_gives;
      }

  pub filled_exactly : (n : ℕ) → 0 < n → fill_refusal l s words ≡ n
      ↔ (FillFault l s words n × ((m : ℕ) → m < n → FillFault l s words m → ⊥))
  unfolding fill_refusal
  filled_exactly = judged_exactly (FillFault l s words) 13 (checks l s ++ (last ∷ [])) fill_named

  pub filled_always : fill_refusal l s words ≡ 0 ↔ ((n : ℕ) → FillFault l s words n → ⊥)
  unfolding fill_refusal
  filled_always = judged_none (FillFault l s words) 13 (checks l s ++ (last ∷ [])) fill_named

module _ (words n i : ℕ) where
  abbrev both : List Check
  both = check 7 (leb n i) ∷ check 13 (ltb words (words_for n)) ∷ []

  look_gives : (k : ℕ) → LookFault words n i k → given k both ≡ true
  look_gives k (no_string h) = rw (le-leb n i h)
  look_gives k (few_words h) = simp (lt-ltb words (words_for n) h, either_true)

  look_named : Named (LookFault words n i) 13 both
  look_named =
      record {
        up = refl;
        shows = (λ t. no_string (leb-true n i t)) also (λ t. few_words (ltb-true words (words_for n) t)) also nothing;
        gives = look_gives;
      }

  pub looked_up_exactly : (k : ℕ) → 0 < k → look_refusal words n i ≡ k
      ↔ (LookFault words n i k × ((m : ℕ) → m < k → LookFault words n i m → ⊥))
  unfolding look_refusal
  looked_up_exactly = judged_exactly (LookFault words n i) 13 both look_named

  pub looked_up_always : look_refusal words n i ≡ 0 ↔ ((k : ℕ) → LookFault words n i k → ⊥)
  unfolding look_refusal
  looked_up_always = judged_none (LookFault words n i) 13 both look_named
