-- Which strings are written: a value that no written string has is that of no plain string before.
use mathlib.Core.Path.{◌≡◌}
use mathlib.Core.Bool.{Bool, true, false, not}
use mathlib.Core.Logic.{inl, inr}
use mathlib.Core.List.{List}
use Prim.Native.Nat.{ℕ, zero, suc, ◌<◌}
use native.Mathlib.Omega.{arith}
use borrow.Author.Tests.{not-true, not-false}
use Rattle.bits.specs.Choice.{either}
use Rattle.bits.proofs.TestLaws.{which, both_0, both_1, both_of, either-not, all_of, all_fails}
use Rattle.format.specs.declared.Layout.{Layout}
use Rattle.footer.specs.Footer.{same}
use Rattle.image.specs.Kinds.{is_identifier}
use Rattle.footer.proofs.SameLaws.{same-is, same_self}
use Rattle.po_strings.specs.Texts.{is_held}
use Rattle.po_write.specs.Strings.{value_of, is_offered, is_first, is_written}

module _ (l : Layout) (s : List ℕ) where
  -- string j is an identifier, or has another value
  abbrev is_other : List ℕ → ℕ → Bool
  is_other v j = either (is_identifier l s j) (not (same (value_of l s j) v))

  -- a string that is written is plain
  pub written_plain : (j : ℕ) → is_written l s j ≡ true → is_identifier l s j ≡ false
  unfolding is_written is_offered
  written_plain j h =
      not-true (is_identifier l s j)
      (both_0 (not (is_identifier l s j)) (is_held (value_of l s j)) (both_0 (is_offered l s j) (is_first l s j) h))

  pub written_held : (j : ℕ) → is_written l s j ≡ true → is_held (value_of l s j) ≡ true
  unfolding is_written is_offered
  written_held j h =
      both_1 (not (is_identifier l s j)) (is_held (value_of l s j)) (both_0 (is_offered l s j) (is_first l s j) h)

  -- ---- whether a value is there before

  pub not_first : (i j : ℕ) → j < i → is_written l s j ≡ true → value_of l s j ≡ value_of l s i → is_first l s i ≡ false
  unfolding is_first
  not_first i j h w e =
      all_fails (is_other (value_of l s i)) i j h (rw (written_plain j w, e, same_self (value_of l s i)))

  module _ (i : ℕ) (held : is_held (value_of l s i) ≡ true)
      (none : (j : ℕ) → j < i → is_written l s j ≡ true → value_of l s j ≡ value_of l s i → ⊥) where
    -- By induction: the first plain string with the value would be written.
    others : (n j : ℕ) → j < n → j < i → is_other (value_of l s i) j ≡ true
    unfolding is_written is_offered is_first
    others zero j h k = absurd (omega arith)
    others (suc n) j h k =
        elim (which (is_other (value_of l s i) j)) [
          | inl t ↦ t
          | inr f ↦
              let (plain, equal) = either-not (is_identifier l s j) (not (same (value_of l s j) (value_of l s i))) f in
              let e : value_of l s j ≡ value_of l s i = same-is (value_of l s j) (value_of l s i) (not-false _ equal) in
              let offered : is_offered l s j ≡ true = rw (plain, e) held in
              let first : is_first l s j ≡ true
              = all_of (is_other (value_of l s j)) j (λ m g. rw e (others n m (omega arith) (omega arith))) in
              absurd (none j k (both_of (is_offered l s j) (is_first l s j) offered first) e)
        ]

    pub is_first_lem : is_first l s i ≡ true
    unfolding is_first
    is_first_lem = all_of (is_other (value_of l s i)) i (λ j h. others i j h h)

  -- ---- whether a string is written

  pub identifier_not : (i : ℕ) → is_identifier l s i ≡ true → is_written l s i ≡ false
  unfolding is_written is_offered
  identifier_not i h = rw h

  module _ (i : ℕ) (plain : is_identifier l s i ≡ false) where
    pub held_not : is_held (value_of l s i) ≡ false → is_written l s i ≡ false
    unfolding is_written is_offered
    held_not h = rw (plain, h)

    module _ (held : is_held (value_of l s i) ≡ true) where
      pub first_written : is_written l s i ≡ is_first l s i
      unfolding is_written is_offered
      first_written = rw (plain, held)
