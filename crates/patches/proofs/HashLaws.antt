-- The hash slots of strings that get values, each written in its turn: "If the string is an identifier, its hash slot (its rank among
-- identifiers) becomes the hash".
use mathlib.Core.Path.{◌≡◌, refl, ap, sym, ◌∙◌}
use mathlib.Core.Bool.{Bool, true, false}
use mathlib.Core.Logic.{inl, inr}
use mathlib.Core.Option.{none}
use mathlib.Core.List.{List}
use Prim.Native.Nat.{ℕ, suc, ◌+◌, ◌*◌, ◌≤◌, ◌<◌}
use native.Mathlib.Omega.{arith}
use borrow.Author.Tests.{eqb-true, eqb-false}
use lib.Dec.{eqb}
use lib.ListN.{length}
use lib.Seq.{sets, length-sets}
use Rattle.bits.specs.Choice.{pick, both}
use Rattle.bits.specs.Bytes.{number_at, bytes_of}
use Rattle.bits.proofs.TestLaws.{which}
use Rattle.bits.proofs.ListLaws.{below_sets, below_bytes_of}
use Rattle.bits.proofs.ByteLaws.{length-bytes_of}
use Rattle.bits.proofs.WriteLaws.{sets_off, number_at_back, number_at_off}
use Rattle.format.specs.declared.Layout.{Layout}
use Rattle.format.specs.Hash.{hash_of}
use Rattle.image.specs.Sections.{functions_in, kinds_in, identifiers_in, strings_in, kinds_at, hashes_at, small_at}
use Rattle.image.specs.Kinds.{is_identifier, rank_of, hash_in}
use Rattle.image.specs.Admitted.{Admitted}
use Rattle.image.proofs.PlaceLaws.{ordered, hash_in_lem}
use Rattle.image.proofs.KindLaws.{rank_lt}
use Rattle.utf.specs.Utf8.{utf16}
use Rattle.string_edits.specs.Values.{Values, in_turn}
use Rattle.string_edits.proofs.TurnLaws.{turn_start, turn_none, turn_some, Gets, turn_along}
use Rattle.string_in_place.specs.Patch.{hashed, rehashed}
use Rattle.patches.specs.Promise.{hash_over}
use Rattle.patches.proofs.CalmLaws.{Calm, Nearly, calm}
use Rattle.patches.proofs.ValueLaws.{hash_lt}

-- x has as many functions, kinds and identifiers as s, so that its hash slots stand where they stood; both are admitted
pub record SameSlots (l : Layout) (s x : List ℕ) : Type 0 where
  pub before : Admitted l s
  pub admitted : Admitted l x
  pub functions : functions_in x ≡ functions_in s
  pub kinds : kinds_in x ≡ kinds_in s
  pub identifiers : identifiers_in x ≡ identifiers_in s

same-hashes : (l : Layout) (s t : List ℕ) → functions_in t ≡ functions_in s → kinds_in t ≡ kinds_in s
    → hashes_at l t ≡ hashes_at l s
unfolding hashes_at kinds_at
same-hashes l s t f k = rw (f, k)

module _ (l : Layout) (s : List ℕ) (v : Values) (x : List ℕ) (like : SameSlots l s x) where
  slots_same : hashes_at l x ≡ hashes_at l s
  slots_same = same-hashes l s x like.functions like.kinds

  small_same : small_at l x ≡ small_at l s
  unfolding small_at
  small_same = rw (slots_same, like.identifiers)

  -- where slot r stands, and what it holds in x
  abbrev slot_at : ℕ → ℕ
  slot_at r = hashes_at l s + r * 4

  abbrev held : ℕ → ℕ
  held r = number_at x (slot_at r) 4

  -- y is x but for the hash slots of the first n strings that get a value
  record Slotted (n : ℕ) (y : List ℕ) : Type 0 where
    nearly : Nearly l x y
    slot : (r : ℕ) → number_at y (slot_at r) 4 ≡ in_turn v (hash_over l r s) n (held r)

  slotted-none : Slotted 0 x
  slotted-none = record {
    nearly = record {
      admitted = like.admitted;
      long = refl;
      bytes = like.admitted.bytes;
      front = λ p h f. refl;
      head = λ p h f. refl;
      rest = λ p h f. refl;
    };
    slot = λ r. sym (turn_start v (hash_over l r s) (held r));
  }

  slotted_skip : (n : ℕ) (y : List ℕ) → v n ≡ none → Slotted n y → Slotted (suc n) y
  slotted_skip n y q k = record {
    nearly = k.nearly;
    slot = λ r. k.slot r ∙ sym (turn_none v (hash_over l r s) (held r) n q);
  }

  slot_in : (i : ℕ) → i < strings_in s → is_identifier l s i ≡ true → slot_at (rank_of l s i) + 4 ≤ small_at l s
  slot_in i known named = hash_in_lem l s (rank_of l s i) (rank_lt like.before i known named)

  -- one slot more
  module _ (i : ℕ) (value y : List ℕ) (known : i < strings_in s) (near : Nearly l x y) where
    abbrev r₀ : ℕ
    r₀ = rank_of l s i

    abbrev h₀ : ℕ
    h₀ = hash_of (utf16 value)

    abbrev u : List ℕ
    u = sets y (slot_at r₀) (bytes_of 4 h₀)

    hashed_nearly : Nearly l x (hashed l s i value y)
    unfolding hashed
    hashed_nearly = go (is_identifier l s i) refl
      where
        go : (b : Bool) → is_identifier l s i ≡ b → Nearly l x (pick b u y)
        go false t = near
        go true t =
            let o = ordered l x in
            let at = slot_at r₀ in
            let vs = bytes_of 4 h₀ in
            let e = slots_same in
            record {
              admitted = like.admitted;
              long = length-sets y at vs ∙ near.long;
              bytes = below_sets 256 (omega arith) vs y at (below_bytes_of 4 h₀) near.bytes;
              front = λ p h f. sets_off vs y at p (λ g. absurd (omega (arith, e, o.kinds, o.hashes))) ∙ near.front p h f;
              head = λ p h f. sets_off vs y at p (λ g. absurd (omega (arith, e))) ∙ near.head p h f;
              rest = λ p h f. sets_off vs y at p (λ g. omega (arith, slot_in i known t, small_same, length-bytes_of 4 h₀))
                  ∙ near.rest p h f;
            }

    hashed_slot : (r : ℕ) → number_at (hashed l s i value y) (slot_at r) 4
        ≡ hash_over l r s i value (number_at y (slot_at r) 4)
    unfolding hashed
    hashed_slot r = go (is_identifier l s i) refl
      where
        go : (b : Bool) → is_identifier l s i ≡ b
            → number_at (pick b u y) (slot_at r) 4 ≡ pick (both b (eqb r r₀)) h₀ (number_at y (slot_at r) 4)
        go false t = refl
        go true t = elim (which (eqb r r₀)) [
          | inl e ↦
              let o = ordered l x in
              let room : slot_at r₀ + 4 ≤ length y
              = omega (arith, slot_in i known t, small_same, o.over, o.storage, o.tail, like.admitted.room, near.long) in
              rw e (ap (λ (k : ℕ). number_at u (slot_at k) 4) (eqb-true r r₀ e)
              ∙ number_at_back y (slot_at r₀) 4 h₀ room (hash_lt (utf16 value)))
          | inr e ↦ rw e (number_at_off y (slot_at r₀) 4 h₀ (slot_at r) 4
              (λ g. omega (arith, eqb-false r r₀ e)))
        ]

  slotted_next : (n : ℕ) (value y : List ℕ) → Gets v (strings_in s) n value → Slotted n y → Slotted (suc n) (hashed l s n value y)
  slotted_next n value y g k = record {
    nearly = hashed_nearly n value y g.known k.nearly;
    slot = λ r. hashed_slot n value y g.known k.nearly r ∙ ap (hash_over l r s n value) (k.slot r)
        ∙ sym (turn_some v (hash_over l r s) (held r) n value g.gets);
  }

  slotted_all : Slotted (strings_in s) (rehashed l s v x)
  unfolding rehashed
  slotted_all = turn_along v (hashed l s) x Slotted (strings_in s) slotted-none slotted_skip slotted_next

  -- nothing else changes
  pub rehashed_nearly : Nearly l x (rehashed l s v x)
  rehashed_nearly = slotted_all.nearly

  pub rehashed_calm : Calm l x (rehashed l s v x)
  rehashed_calm = calm l x (rehashed l s v x) rehashed_nearly

  -- a slot has the hash of the value that its identifier gets, if it gets one
  pub rehashed_hash : (r : ℕ) → hash_in l (rehashed l s v x) r ≡ in_turn v (hash_over l r s) (strings_in s) (hash_in l x r)
  unfolding hash_in
  rehashed_hash r =
      let z = rehashed_calm in
      rw (
        slots_same,
        same-hashes l s (rehashed l s v x) (z.functions ∙ like.functions) (z.kinds ∙ like.kinds),
      )
      (slotted_all.slot r)
