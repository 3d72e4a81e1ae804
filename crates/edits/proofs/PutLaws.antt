-- A rebuild with one string for another of the same width and length is the same but for the bytes of that string.
use mathlib.Core.Path.{◌≡◌, ap, sym, ◌∙◌, subst}
use mathlib.Core.Bool.{Bool, true}
use mathlib.Core.Logic.{inl, inr, ◌≢◌}
use mathlib.Core.List.{List, ◌++◌, append_assoc}
use Prim.Native.Nat.{ℕ, zero, suc, ◌+◌, ◌*◌, ◌≤◌, ◌<◌}
use native.Mathlib.Omega.{arith}
use borrow.Author.Tests.{eqb-true, eqb-false}
use lib.Dec.{eqb}
use lib.ListN.{length, get_or, replicate, take, drop, length-append, length-replicate}
use lib.Seq.{sets, length-sets, length-take-le}
use Rattle.bits.specs.Bytes.{zeros_to4}
use Rattle.bits.proofs.TestLaws.{which, below}
use Rattle.bits.proofs.WriteLaws.{sets_off, sets_in, sets_all}
use Rattle.format.specs.declared.Layout.{Layout}
use Rattle.format.specs.declared.Mode.{Mode}
use Rattle.image.specs.Sections.{strings_in, small_at, tail_at}
use Rattle.image.specs.Strings.{Str}
use Rattle.image.specs.Functions.{Func}
use Rattle.image.specs.Admitted.{Admitted}
use Rattle.image.proofs.PlaceLaws.{ordered}
use Rattle.edits.specs.Edit.{splice, Write, edit}
use Rattle.edits.specs.Packing.{count_of, Packed, gap_of, store_of, start_of, placed, packed}
use Rattle.edits.specs.Rebuild.{overs, smalls, pairs, region, padded, rebuild}
use Rattle.edits.proofs.WriteLaws.{length_writes, writes_byte}
use Rattle.edits.proofs.HitLaws.{off_or, sets-left, sets_right}
use Rattle.edits.proofs.TableLaws.{size-smalls, size-pairs}
use Rattle.edits.proofs.PackLaws.{store_none, store_next, start_is, size_next, size_room}
use Rattle.edits.proofs.RegionLaws.{length-region}
use Rattle.edits.proofs.ModeLaws.{overs_ext, smalls_ext, pairs_ext}
use Rattle.edits.proofs.BodyLaws.{new_byte}
use Rattle.edits.proofs.RebuildLaws.{new_region, rebuilding, parted, length_rebuilt}

-- ---- a packing hangs only on its strings

pub store_ext : (m : Mode) (f g : ℕ → Str) (n : ℕ) → ((i : ℕ) → i < n → f i ≡ g i) → store_of m f n ≡ store_of m g n
store_ext m f g zero e = store_none m f ∙ sym (store_none m g)
store_ext m f g (suc n) e =
    store_next m f n
    ∙ rw (store_ext m f g n (λ i h. e i (omega arith)), e n (omega arith)) (sym (store_next m g n))

pub placed_ext : (m : Mode) (f g : ℕ → Str) (i : ℕ) → ((j : ℕ) → j < suc i → f j ≡ g j) → placed m f i ≡ placed m g i
unfolding start_of
placed_ext m f g i e =
    rw (store_ext m f g i (λ j h. e j (omega arith)), e i (omega arith))

-- ---- the packing

-- g is f but for string id, which is another of the same width and length
pub record Restated (f g : ℕ → Str) (id : ℕ) : Type 0 where
  pub other : (j : ℕ) → j ≢ id → g j ≡ f j
  pub wide : (g id).wide ≡ (f id).wide
  pub size : length (g id).bytes ≡ length (f id).bytes

module _ (m : Mode) (f g : ℕ → Str) (id : ℕ) (re : Restated f g id) where
  wide_at : (i : ℕ) → (g i).wide ≡ (f i).wide
  wide_at i = elim (which (eqb i id)) [
    | inl t ↦ rw (eqb-true i id t) re.wide
    | inr n ↦ ap (λ (t : Str). t.wide) (re.other i (eqb-false i id n))
  ]

  size-at : (i : ℕ) → length (g i).bytes ≡ length (f i).bytes
  size-at i = elim (which (eqb i id)) [
    | inl t ↦ rw (eqb-true i id t) re.size
    | inr n ↦ ap (λ (t : Str). length t.bytes) (re.other i (eqb-false i id n))
  ]

  start-of : (i : ℕ) → length (store_of m g i) ≡ length (store_of m f i) → start_of m g i ≡ start_of m f i
  start-of i e = start_is m g i ∙ rw (e, wide_at i) (sym (start_is m f i))

  store_size : (n : ℕ) → length (store_of m g n) ≡ length (store_of m f n)
  store_size zero = rw (store_none m f, store_none m g)
  store_size (suc n) = omega (arith, size_next m g n, size_next m f n, start-of n (store_size n), size-at n)

  -- each stands where it stood
  pub place_like : (i : ℕ) → placed m g i ≡ placed m f i
  place_like i =
      let c : count_of (g i) ≡ count_of (f i) = rw (size-at i, wide_at i) in
      λ x. record { wide = wide_at i x; at = start-of i (store_size i) x; count = c x }

  -- behind the last of them
  store_here : store_of m g (suc id) ≡ sets (store_of m f (suc id)) (start_of m f id) (g id).bytes
  store_here =
      let a : List ℕ = store_of m f id in
      let z : List ℕ = replicate (gap_of m (f id).wide (length a)) 0 in
      let n : length (a ++ z) + 0 ≡ start_of m f id = rw (length-append, length-replicate) (omega (arith, start_is m f id)) in
      store_next m g id
      ∙ rw (store_ext m g f id (λ j h. re.other j (λ e. omega arith)), re.wide)
      (sym (append_assoc a z (g id).bytes)
      ∙ ap (λ (x : List ℕ). (a ++ z) ++ x) (sym (sets_all (g id).bytes (f id).bytes re.size))
      ∙ sym (sets_right (g id).bytes (a ++ z) (f id).bytes 0 (omega (arith, re.size)))
      ∙ ap (λ (x : ℕ). sets ((a ++ z) ++ (f id).bytes) x (g id).bytes) n
      ∙ ap (λ (x : List ℕ). sets x (start_of m f id) (g id).bytes) (append_assoc a z (f id).bytes ∙ sym (store_next m f id)))

  store_put : (n : ℕ) → id < n → store_of m g n ≡ sets (store_of m f n) (start_of m f id) (g id).bytes
  store_put zero h = absurd (omega arith)
  store_put (suc n) h =
      elim (below id n h) [
        | inl e ↦ subst (λ (i : ℕ). store_of m g (suc i) ≡ sets (store_of m f (suc i)) (start_of m f id) (g id).bytes) e store_here
        | inr l ↦ let r : List ℕ = replicate (gap_of m (f n).wide (length (store_of m f n))) 0 ++ (f n).bytes in
            store_next m g n
            ∙ rw (re.other n (λ z. omega arith), store_size n, store_put n l)
            (sym (sets-left (g id).bytes (store_of m f n) r (start_of m f id) (omega (arith, size_room m f id n l, re.size)))
            ∙ ap (λ (x : List ℕ). sets x (start_of m f id) (g id).bytes) (sym (store_next m f n)))
      ]

  -- ---- small table, overflow table, storage and padding

  module _ (n : ℕ) (known : id < n) where
    abbrev q : Packed
    q = packed m f n

    abbrev r : Packed
    r = packed m g n

    -- where it stands among them
    abbrev from : ℕ
    from = n * 4 + (overs (placed m f) n * 8 + start_of m f id)

    overs_like : overs (placed m g) n ≡ overs (placed m f) n
    overs_like = overs_ext (placed m g) (placed m f) n (λ i h. place_like i)

    region-size : length (region n r) ≡ length (region n q)
    region-size = omega (arith, length-region n r, length-region n q, overs_like, store_size n)

    from_fits : from + length (g id).bytes ≤ length (region n q)
    from_fits = omega (arith, length-region n q, size_room m f id n known, re.size)

    region-put : region n r ≡ sets (region n q) from (g id).bytes
    unfolding region
    region-put =
        let v : List ℕ = (g id).bytes in
        let a : List ℕ = smalls (placed m f) n in
        let b : List ℕ = pairs (placed m f) n in
        let c : List ℕ = store_of m f n in
        let fit : start_of m f id + length v ≤ length c = omega (arith, size_room m f id n known, re.size) in
        let e : length a + (length b + start_of m f id) ≡ from = omega (arith, size-smalls (placed m f) n, size-pairs (placed m f) n) in
        ap (λ (x : List ℕ). x ++ (pairs (placed m g) n ++ store_of m g n)) (smalls_ext (placed m g) (placed m f) n (λ i h. place_like i))
        ∙ ap (λ (x : List ℕ). a ++ (x ++ store_of m g n)) (pairs_ext (placed m g) (placed m f) n (λ i h. place_like i))
        ∙ ap (λ (x : List ℕ). a ++ (b ++ x)) (store_put n known)
        ∙ ap (λ (x : List ℕ). a ++ x) (sym (sets_right v b c (start_of m f id) fit))
        ∙ sym (sets_right v a (b ++ c) (length b + start_of m f id) (rw length-append (omega arith)))
        ∙ ap (λ (x : ℕ). sets (a ++ (b ++ c)) x v) e

    padded-put : (a : ℕ) → padded a (region n r) ≡ sets (padded a (region n q)) from (g id).bytes
    unfolding padded
    padded-put a =
        let z : List ℕ = zeros_to4 (a + length (region n q)) in
        ap (λ (x : ℕ). region n r ++ zeros_to4 (a + x)) region-size
        ∙ ap (λ (x : List ℕ). x ++ z) region-put
        ∙ sym (sets-left (g id).bytes (region n q) z from from_fits)

    from_within : (a : ℕ) → from + length (g id).bytes ≤ length (padded a (region n q))
    unfolding padded
    from_within a = rw length-append (omega (arith, from_fits))

-- ---- the rebuild

-- a byte of an edit hangs, of the bytes that it takes in, only on that byte
edit_byte : (l : Layout) (whole : Bool) (a b : ℕ) (new old : List ℕ) (fs : ℕ → Func) (ws : List Write) (s : List ℕ) (p : ℕ)
    → length (splice a b new s) ≡ length (splice a b old s) → get_or (splice a b new s) p 0 ≡ get_or (splice a b old s) p 0
    → get_or (edit l whole a b new fs ws s) p 0 ≡ get_or (edit l whole a b old fs ws s) p 0
unfolding edit
edit_byte l whole a b new old fs ws s p n e =
    writes_byte _ _ _ p (simp length_writes n) (writes_byte _ _ _ p (simp length_writes n) (writes_byte ws _ _ p n e))

splice-put : (a b k : ℕ) (v new s : List ℕ) → a ≤ length s → k + length v ≤ length new
    → splice a b (sets new k v) s ≡ sets (splice a b new s) (a + k) v
unfolding splice
splice-put a b k v new s h g =
    let n : length (take a s) ≡ a = length-take-le a s h in
    ap (λ (x : List ℕ). take a s ++ x) (sym (sets-left v new (drop b s) k g))
    ∙ sym (sets_right v (take a s) (new ++ drop b s) k (rw length-append (omega arith)))
    ∙ ap (λ (x : ℕ). sets (take a s ++ (new ++ drop b s)) (x + k) v) n

module _ (m : Mode) (f g : ℕ → Str) (id : ℕ) (re : Restated f g id) (l : Layout) (s : List ℕ) (ad : Admitted l s)
    (known : id < strings_in s) where
  abbrev old : Packed
  old = packed m f (strings_in s)

  abbrev now : Packed
  now = packed m g (strings_in s)

  abbrev v : List ℕ
  v = (g id).bytes

  abbrev here : ℕ
  here = strings_in s * 4 + (overs (placed m f) (strings_in s) * 8 + start_of m f id)

  region-is : new_region l now s ≡ sets (new_region l old s) here v
  region-is = padded-put m f g id re (strings_in s) known (small_at l s)

  here_in : here + length v ≤ length (new_region l old s)
  here_in = from_within m f g id re (strings_in s) known (small_at l s)

  region-long : length (new_region l now s) ≡ length (new_region l old s)
  region-long = ap (λ (x : List ℕ). length x) region-is ∙ length-sets (new_region l old s) here v

  -- the same edit, but for the bytes that it takes in
  rebuild_now : rebuild l now s
      ≡ edit l true (small_at l s) (tail_at l s) (new_region l now s) (rebuilding l old s).func (rebuilding l old s).words s
  unfolding rebuild
  rebuild_now = rw (region-long, overs_like m f g id re (strings_in s) known, store_size m f g id re (strings_in s))

  -- where the string stands in the image
  abbrev at : ℕ
  at = small_at l s + here

  put_off : (p : ℕ) → (at ≤ p → at + length v ≤ p) → get_or (rebuild l now s) p 0 ≡ get_or (rebuild l old s) p 0
  unfolding rebuild
  put_off p o =
      let a : ℕ = small_at l s in
      let b : ℕ = tail_at l s in
      let fit : a ≤ length s = let u = ordered l s in omega (arith, u.over, u.storage, u.tail, ad.room) in
      let e : splice a b (new_region l now s) s ≡ sets (splice a b (new_region l old s) s) at v
      = ap (λ (x : List ℕ). splice a b x s) region-is ∙ splice-put a b here v (new_region l old s) s fit here_in in
      ap (λ (x : List ℕ). get_or x p 0) rebuild_now
      ∙ edit_byte l true a b (new_region l now s) (new_region l old s) (rebuilding l old s).func (rebuilding l old s).words s p
      (ap (λ (x : List ℕ). length x) e ∙ length-sets (splice a b (new_region l old s) s) at v)
      (ap (λ (x : List ℕ). get_or x p 0) e ∙ sets_off v (splice a b (new_region l old s) s) at p o)

  put_in : (j : ℕ) → j < length v → get_or (rebuild l now s) (at + j) 0 ≡ get_or v j 0
  unfolding rebuild
  put_in j h =
      let e : at + j ≡ small_at l s + (here + j) = omega arith in
      rw e (new_byte l s (rebuilding l now s) (parted l now s ad) (here + j) (omega (arith, region-long, here_in)))
      ∙ ap (λ (x : List ℕ). get_or x (here + j) 0) region-is ∙ sets_in v (new_region l old s) here j here_in h

  pub rebuild-long : length (rebuild l now s) ≡ length (rebuild l old s)
  rebuild-long = omega (arith, length_rebuilt l now s ad, length_rebuilt l old s ad, region-long)

  -- the bytes of the string are over those of the other
  pub rebuild-put : (p : ℕ) → get_or (rebuild l now s) p 0 ≡ get_or (sets (rebuild l old s) at v) p 0
  rebuild-put p = elim (off_or v at p) [
    | inl o ↦ put_off p o ∙ sym (sets_off v (rebuild l old s) at p o)
    | inr (j, h, q) ↦ let fit : at + length v ≤ length (rebuild l old s) = omega (arith, here_in, length_rebuilt l old s ad) in
        subst (λ (r : ℕ). get_or (rebuild l now s) r 0 ≡ get_or (sets (rebuild l old s) at v) r 0) q
        (put_in j h ∙ sym (sets_in v (rebuild l old s) at j fit h))
  ]
