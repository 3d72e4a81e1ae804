-- Two maps of values that set no string both: the values of the second go over the old bytes on top of those of the first, and their
-- hashes into their slots. 02, Nos. 4 and 12.
use mathlib.Core.Path.{◌≡◌, refl, sym, ◌∙◌}
use mathlib.Core.Bool.{Bool, true, false}
use mathlib.Core.Logic.{inl, inr, ◌≢◌}
use mathlib.Core.List.{List}
use Prim.Native.Nat.{ℕ, ◌+◌, ◌*◌, ◌≤◌, ◌<◌}
use native.Mathlib.Omega.{arith}
use lib.ListN.{length, get_or}
use lib.Seq.{sets, length-sets}
use Rattle.bits.specs.Choice.{pick, both}
use Rattle.bits.specs.Bytes.{bytes_of}
use Rattle.bits.proofs.TestLaws.{below_or}
use Rattle.bits.proofs.ByteLaws.{length-bytes_of}
use Rattle.bits.proofs.WriteLaws.{sets_comm}
use Rattle.format.specs.declared.Layout.{Layout}
use Rattle.format.specs.Hash.{hash_of}
use Rattle.image.specs.Sections.{strings_in, hashes_at, small_at}
use Rattle.image.specs.Kinds.{is_identifier, rank_of}
use Rattle.image.specs.Admitted.{Admitted}
use Rattle.image.proofs.PlaceLaws.{hash_in_lem}
use Rattle.image.proofs.KindLaws.{rank_rises, rank_lt}
use Rattle.edits.proofs.HitLaws.{sets-both}
use Rattle.utf.specs.Utf8.{utf16}
use Rattle.string_edits.specs.Values.{Values, joined, Apart}
use Rattle.string_edits.proofs.TurnLaws.{turn_both, gets_apart, turn_joined, edited_and}
use Rattle.string_in_place.specs.Patch.{fits_in_place, fits_all, over_old, in_place, hashed, rehashed}
use Rattle.patches.proofs.InPlaceLaws.{spot, sized, apart, AllFit, fits_each}

-- ---- one hash slot

-- two images have room for the hash slots of s, and the same byte p
pub record SameByte (l : Layout) (s : List ℕ) (p : ℕ) (a b : List ℕ) : Type 0 where
  pub left : small_at l s ≤ length a
  pub right : small_at l s ≤ length b
  pub byte : get_or a p 0 ≡ get_or b p 0

module _ (l : Layout) (s : List ℕ) (id : ℕ) (value : List ℕ) where
  abbrev slot : ℕ
  slot = hashes_at l s + rank_of l s id * 4

  abbrev hash : List ℕ
  hash = bytes_of 4 (hash_of (utf16 value))

  -- a byte hangs only on that byte before
  hashed_byte : Admitted l s → id < strings_in s → (p : ℕ) (a b : List ℕ) → SameByte l s p a b
      → SameByte l s p (hashed l s id value a) (hashed l s id value b)
  unfolding hashed
  hashed_byte ad known p a b r = go (is_identifier l s id) refl
    where
      go : (c : Bool) → is_identifier l s id ≡ c → SameByte l s p (pick c (sets a slot hash) a) (pick c (sets b slot hash) b)
      go true n =
          let fit : slot + 4 ≤ small_at l s = hash_in_lem l s (rank_of l s id) (rank_lt ad id known n) in
          let m : length hash ≡ 4 = length-bytes_of 4 (hash_of (utf16 value)) in
          record {
            left = rw length-sets r.left;
            right = rw length-sets r.right;
            byte = sets-both hash a b slot p (omega (arith, r.left)) (omega (arith, r.right)) r.byte;
          }
      go false n = r

-- slots of two strings are two, and are written in either order
hashed_comm : (l : Layout) (s : List ℕ) (i j : ℕ) (x y out : List ℕ) → i ≢ j
    → hashed l s i x (hashed l s j y out) ≡ hashed l s j y (hashed l s i x out)
unfolding hashed
hashed_comm l s i j x y out d = go (is_identifier l s i) (is_identifier l s j) refl refl
  where
    go : (b c : Bool) → is_identifier l s i ≡ b → is_identifier l s j ≡ c
        → pick b (sets (pick c (sets out (slot l s j y) (hash l s j y)) out) (slot l s i x) (hash l s i x))
        (pick c (sets out (slot l s j y) (hash l s j y)) out)
        ≡ pick c (sets (pick b (sets out (slot l s i x) (hash l s i x)) out) (slot l s j y) (hash l s j y))
        (pick b (sets out (slot l s i x) (hash l s i x)) out)
    go true true n m =
        let a : length (hash l s i x) ≡ 4 = length-bytes_of 4 (hash_of (utf16 x)) in
        let b : length (hash l s j y) ≡ 4 = length-bytes_of 4 (hash_of (utf16 y)) in
        elim (below_or i j) [
          | inl h ↦ sets_comm (hash l s i x) (hash l s j y) out (slot l s i x) (slot l s j y) (omega (arith, rank_rises l s i j h n))
          | inr h ↦ sym (sets_comm (hash l s j y) (hash l s i x) out (slot l s j y) (slot l s i x)
              (omega (arith, rank_rises l s j i (omega arith) m)))
        ]
    go true false n m = refl
    go false true n m = refl
    go false false n m = refl

-- all hash slots
pub rehashed_byte : (l : Layout) (s : List ℕ) → Admitted l s → (v : Values) (p : ℕ) (a b : List ℕ) → SameByte l s p a b
    → SameByte l s p (rehashed l s v a) (rehashed l s v b)
unfolding rehashed
rehashed_byte l s ad v p a b r =
    turn_both v (hashed l s) (SameByte l s p) a b (strings_in s) r (λ i value x y h. hashed_byte l s i value ad h p x y)

-- ---- on top of others

module _ (l : Layout) (s : List ℕ) (v d : Values) (parted : Apart v d) where
  pub fits-joined : fits_all l s (joined v d) ≡ both (fits_all l s d) (fits_all l s v)
  unfolding fits_all
  fits-joined =
      turn_joined v d parted _ true (strings_in s) (λ i j x y g h b. go (fits_in_place l s j y) (fits_in_place l s i x) b)
      ∙ edited_and d (fits_in_place l s) (strings_in s) (fits_all l s v)
    where
      go : (a b c : Bool) → both a (both b c) ≡ both b (both a c)
      go true true c = refl
      go true false c = refl
      go false true c = refl
      go false false c = refl

  pub in_place_joined : AllFit l s v → AllFit l s d → (out : List ℕ)
      → in_place l s (joined v d) out ≡ in_place l s d (in_place l s v out)
  unfolding in_place over_old
  in_place_joined old new out =
      turn_joined v d parted (over_old l s) out (strings_in s)
      (λ i j x y g h b.
      let n = sized l s i x (fits_each l s v old i x g) in
      let fit = fits_each l s d new j y h in
      let o = apart l s j y fit i g.known (gets_apart v d parted i j x y g.gets h.gets) in
      elim (below_or (spot l s j) (spot l s i + length x)) [
        | inl k ↦ sets_comm y x b (spot l s j) (spot l s i) (o (omega arith))
        | inr k ↦ sym (sets_comm x y b (spot l s i) (spot l s j) k)
      ])

  pub rehashed-joined : (out : List ℕ) → rehashed l s (joined v d) out ≡ rehashed l s d (rehashed l s v out)
  unfolding rehashed
  rehashed-joined out =
      turn_joined v d parted (hashed l s) out (strings_in s)
      (λ i j x y g h b. sym (hashed_comm l s i j x y b (gets_apart v d parted i j x y g.gets h.gets)))
