-- What the rank of a string says: whether it is an identifier, and which hash slot is its own.
use Rattle.std.specs.Prelude.{None, Option, Some}
use mathlib.Core.Path.{◌≡◌, refl, sym, ◌∙◌, ap}
use mathlib.Core.Bool.{Bool, true, false}
use mathlib.Core.List.{List}
use Prim.Native.Nat.{ℕ, ◌+◌, ◌*◌, ◌≤◌, ◌<◌}
use native.Mathlib.Omega.{arith}
use Rattle.bits.specs.Bytes.{word_at}
use Rattle.bits.specs.Choice.{pick}
use Rattle.format.specs.declared.Layout.{Layout}
use Rattle.image.specs.Sections.{hashes_at}
use Rattle.image.specs.Kinds.{is_identifier, rank_of, hash_in}
use Rattle.image.proofs.KindLaws.{rank_lt}
use Rattle.sections.specs.declared.Places.{Places}
use Rattle.sections.specs.Places.{Placed, Laid}
use Rattle.sections.proofs.SectionLaws.{Sectioned, sectioned}
use Rattle.string_walk.specs.Records.{rank_in, is_ranked}

module _ (l : Layout) (s : List ℕ) (id : ℕ) where
  -- a rank is that of an identifier
  pub ranked_flag : is_ranked (rank_in l s id) ≡ is_identifier l s id
  unfolding rank_in
  ranked_flag = go (is_identifier l s id)
    where
      go : (b : Bool) → is_ranked (pick b (Some (rank_of l s id)) None) ≡ b
      go true = refl
      go false = refl

  module _ (r : Option ℕ) (e : r ≡ rank_in l s id) where
    pub is_ranked_lem : (n : ℕ) → r ≡ Some n → (is_identifier l s id ≡ true) × (n ≡ rank_of l s id)
    unfolding rank_in
    is_ranked_lem n f = go (is_identifier l s id) (sym f ∙ e)
      where
        go : (b : Bool) → Some n ≡ pick b (Some (rank_of l s id)) None → (b ≡ true) × (n ≡ rank_of l s id)
        go true h = (refl, cc)
        go false h = let z : ◌≡◌ {A = ℕ} 0 1 = cc in absurd (omega arith)

    pub is_plain : r ≡ None → is_identifier l s id ≡ false
    is_plain f = sym (ap is_ranked (sym f ∙ e) ∙ ranked_flag)

-- ---- hash slots

module _ (p : Places) (s : List ℕ) (h : Placed p s) where
  pub hashes_from_lem : p.hashes_at ≡ hashes_at p.layout s
  unfolding hashes_at
  hashes_from_lem = let z : Sectioned p s = sectioned p s h in z.hashes_next ∙ rw (z.kinds_from, z.kinds)

  pub hash_is : (n x a : ℕ) → x ≡ word_at s a → a ≡ p.hashes_at + n * 4 → x ≡ hash_in p.layout s n
  unfolding hash_in
  hash_is n x a e f = e ∙ ap (λ (b : ℕ). word_at s b) (f ∙ ap (λ (b : ℕ). b + n * 4) hashes_from_lem)

  -- they lie before the small entries
  pub slot_in : (n : ℕ) → n < p.identifiers → p.hashes_at + n * 4 + 4 ≤ p.small_at
  slot_in n b = let z : Sectioned p s = sectioned p s h in omega arith

-- the rank of an identifier is the number of a hash slot
pub rank_slot : (p : Places) (s : List ℕ) → Laid p s → (id : ℕ) → id < p.strings → (r : Option ℕ) → r ≡ rank_in p.layout s id
    → (n : ℕ) → r ≡ Some n → n < p.identifiers
rank_slot p s h id b r e n f =
    let (t, g) = is_ranked_lem p.layout s id r e n f in
    let z : Sectioned p s = sectioned p s h.placed in
    omega (arith, g, rank_lt h.admitted id (omega arith) t)
