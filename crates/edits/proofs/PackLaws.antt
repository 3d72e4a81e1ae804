-- The packing of each mode carries its strings, each behind the one before it and its gap.
use mathlib.Core.Path.{◌≡◌, refl, ap, sym, ◌∙◌}
use mathlib.Core.Bool.{Bool, true, false}
use mathlib.Core.Logic.{inl, inr}
use mathlib.Core.List.{List, [], ◌++◌, append_assoc, append-nil}
use Prim.Native.Nat.{ℕ, zero, suc, ◌+◌, ◌≤◌, ◌<◌}
use native.Mathlib.Omega.{arith}
use lib.ListN.{length, get_or, replicate, length-append, length-replicate, get_or-replicate, get_or-append}
use Rattle.bits.proofs.TestLaws.{below}
use Rattle.bits.proofs.ListLaws.{AllBelow, get_d_past, below_nil, below_append, below_zeros}
use Rattle.format.specs.declared.Mode.{Mode}
use Rattle.format.specs.declared.Mode.TheVariants.{Plain, Even}
use Rattle.image.specs.Strings.{Str}
use Rattle.edits.specs.Packing.{Stored, Carries, gap_of, store_of, start_of, placed, packed}

module _ (m : Mode) (f : ℕ → Str) where
  -- the zeros before string i
  abbrev zeros_of : ℕ → List ℕ
  zeros_of i = replicate (gap_of m (f i).wide (length (store_of m f i))) 0

  -- ---- storage grows, one string behind the other

  pub store_none : store_of m f 0 ≡ []
  unfolding store_of
  store_none = refl

  pub store_next : (i : ℕ) → store_of m f (suc i) ≡ store_of m f i ++ (zeros_of i ++ (f i).bytes)
  unfolding store_of
  store_next i = refl

  pub start_is : (i : ℕ) → start_of m f i ≡ length (store_of m f i) + gap_of m (f i).wide (length (store_of m f i))
  unfolding start_of
  start_is i = refl

  pub size_next : (i : ℕ) → length (store_of m f (suc i)) ≡ start_of m f i + length (f i).bytes
  size_next i = rw (store_next i, length-append, length-append, length-replicate) (omega (arith, start_is i))

  store_front : (i n : ℕ) → i ≤ n → (rest : List ℕ) × (store_of m f n ≡ store_of m f i ++ rest)
  store_front i zero h = let e : i ≡ 0 = omega arith in ([], rw e (sym (append-nil (store_of m f 0))))
  store_front i (suc n) h =
      elim (below i (suc n) (omega arith)) [
        | inl e ↦ ([], rw e (sym (append-nil (store_of m f (suc n)))))
        | inr l ↦ let (a, p) = store_front i n (omega arith) in
            let b : List ℕ = zeros_of n ++ (f n).bytes in
            (a ++ b, store_next n ∙ ap (λ (x : List ℕ). x ++ b) p ∙ append_assoc (store_of m f i) a b)
      ]

  -- string i among n: what is before it and its gap, its bytes, what is behind it
  store_split : (i n : ℕ) → i < n → (rest : List ℕ) × (store_of m f n ≡ (store_of m f i ++ zeros_of i) ++ ((f i).bytes ++ rest))
  store_split i n h =
      let (r, p) = store_front (suc i) n h in (
        r,
        p ∙ ap (λ (x : List ℕ). x ++ r) (store_next i ∙ sym (append_assoc (store_of m f i) (zeros_of i) (f i).bytes))
            ∙ append_assoc (store_of m f i ++ zeros_of i) (f i).bytes r,
      )

  -- ---- each string stands at its place

  front_long : (i : ℕ) → length (store_of m f i ++ zeros_of i) ≡ start_of m f i
  unfolding start_of
  front_long i = length-append (store_of m f i) (zeros_of i) ∙ rw length-replicate

  pub size_room : (i n : ℕ) → i < n → start_of m f i + length (f i).bytes ≤ length (store_of m f n)
  size_room i n h =
      let (r, p) = store_split i n h in
      let a : List ℕ = store_of m f i ++ zeros_of i in
      rw p (omega (arith, length-append a ((f i).bytes ++ r), length-append (f i).bytes r, front_long i))

  stored : (n i : ℕ) → i < n → Stored (store_of m f n) (f i) (placed m f i)
  stored n i h = record {
    wide = refl;
    count = refl;
    within = size_room i n h;
    byte = λ j g.
        let (r, p) = store_split i n h in
        rw p (get_d_past (store_of m f i ++ zeros_of i) ((f i).bytes ++ r) (start_of m f i) j (front_long i)
        ∙ get_or-append (f i).bytes r 0 j g);
  }

  store_below : (b n : ℕ) → 0 < b → ((i : ℕ) → i < n → AllBelow b (f i).bytes) → AllBelow b (store_of m f n)
  unfolding store_of
  store_below b zero z h = below_nil b z
  store_below b (suc n) z h =
      below_append b z (store_of m f n) (zeros_of n ++ (f n).bytes) (store_below b n z (λ i g. h i (omega arith)))
      (below_append b z (zeros_of n) (f n).bytes (below_zeros b z (gap_of m (f n).wide (length (store_of m f n)))) (h n (omega arith)))

  pub carries : (n : ℕ) → Carries n f (packed m f n)
  carries n = record { string = stored n; bytes = λ b z h. store_below b n z h }

  -- ---- what reading back does not see

  -- the first string starts at 0
  pub start_none : start_of m f 0 ≡ 0
  start_none = start_is 0 ∙ rw store_none (go m (f 0).wide)
    where
      go : (k : Mode) (w : Bool) → 0 + gap_of k w 0 ≡ 0
      go Plain w = refl
      go Even true = refl
      go Even false = refl

  -- the bytes of a gap are zeros
  pub gap-zero : (i n j : ℕ) → i < n → j < gap_of m (f i).wide (length (store_of m f i))
      → get_or (store_of m f n) (length (store_of m f i) + j) 0 ≡ 0
  gap-zero i n j h g =
      let (r, p) = store_split i n h in
      let z : ℕ = gap_of m (f i).wide (length (store_of m f i)) in
      rw (p, append_assoc (store_of m f i))
      (get_d_past (store_of m f i) (replicate z 0 ++ ((f i).bytes ++ r)) (length (store_of m f i)) j refl
      ∙ get_or-append (replicate z 0) ((f i).bytes ++ r) 0 j (rw length-replicate g)
      ∙ get_or-replicate z j 0 0 g)
