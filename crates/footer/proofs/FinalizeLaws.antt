-- Finalize: its refusals, its two writes, and what it keeps.
use mathlib.Core.Path.{◌≡◌, refl, ap, sym, ◌∙◌}
use mathlib.Core.Bool.{Bool, true, false}
use mathlib.Core.List.{List, ◌++◌, append-nil}
use Prim.Native.Nat.{ℕ, ◌+◌, ◌-◌, ◌≤◌, ◌<◌}
use native.Mathlib.Omega.{arith}
use borrow.Author.Tests.{lt-ltb, le-ltb, ltb-false}
use lib.Dec.{ltb}
use lib.ListN.{length, take, drop, get_or, length-append, drop_of_length-le}
use lib.Seq.{sets, length-sets, length-take-le, get_or-take, take_at}
use Rattle.bits.specs.Choice.{pick, either}
use Rattle.bits.specs.Bytes.{bytes_of}
use Rattle.bits.specs.Outcome.{refused, made}
use Rattle.bits.proofs.ByteLaws.{length-bytes_of}
use Rattle.bits.proofs.TestLaws.{either-not}
use Rattle.bits.proofs.WriteLaws.{sets_off, sets-twice, take-sets}
use Rattle.format.specs.Table.{file_length}
use Rattle.sha1_hash.specs.Sha1.{digest}
use Rattle.footer.specs.Footer.{footer_length, footed}
use Rattle.footer.specs.Finalize.{least_length, size_limit, lengthed, sealed, finalize_of}
use Rattle.footer.proofs.FooterLaws.{length-footed, footed-stored}

-- ---- the footer over the last bytes

module _ (s : List ℕ) (h : footer_length ≤ length s) where
  length-sealed : length (sealed s) ≡ length s
  unfolding sealed
  length-sealed =
      length-footed (take (length s - footer_length) s) ∙ rw (length-take-le (length s - footer_length) s (omega arith)) (omega arith)

  -- it is a write
  sealed-stored : sets s (length s - footer_length) (digest (take (length s - footer_length) s)) ≡ sealed s
  unfolding sealed
  sealed-stored =
      let l : length (footed (take (length s - footer_length) s)) ≡ length s = length-sealed in
      footed-stored s (length s - footer_length) (omega arith)
      ∙ rw (drop_of_length-le s {i = length (footed (take (length s - footer_length) s))} (omega arith))
      (append-nil (footed (take (length s - footer_length) s)))

  -- the bytes before it stay
  take-sealed : take (length s - footer_length) (sealed s) ≡ take (length s - footer_length) s
  unfolding sealed footed
  take-sealed =
      take_at (take (length s - footer_length) s) (digest (take (length s - footer_length) s)) (length s - footer_length)
      (length-take-le (length s - footer_length) s (omega arith))

-- ---- the outcome, case by case

module _ (s : List ℕ) where
  pub finalize_under : length s < least_length → finalize_of s ≡ refused 1
  unfolding finalize_of
  finalize_under h = rw (lt-ltb _ _ h)

  pub finalize_over : least_length ≤ length s → size_limit < length s → finalize_of s ≡ refused 1
  unfolding finalize_of
  finalize_over h k = rw (le-ltb _ _ h, lt-ltb _ _ k)

  pub finalize_within : least_length ≤ length s → length s ≤ size_limit → finalize_of s ≡ made (sealed (lengthed s))
  unfolding finalize_of
  finalize_within h k = rw (le-ltb _ _ h, le-ltb _ _ k)

  length-lengthed : length (lengthed s) ≡ length s
  unfolding lengthed
  length-lengthed = length-sets s file_length.at (bytes_of file_length.width (length s))

  pub length_finalized : least_length ≤ length s → length (sealed (lengthed s)) ≡ length s
  length_finalized h = length-sealed (lengthed s) (omega (arith, length-lengthed)) ∙ length-lengthed

  lengthed-is : (o : List ℕ) → o ≡ sets s file_length.at (bytes_of file_length.width (length s)) → o ≡ lengthed s
  unfolding lengthed
  lengthed-is o p = p

  lengthed_off : (p : ℕ) → (file_length.at ≤ p → file_length.at + file_length.width ≤ p) → get_or (lengthed s) p 0 ≡ get_or s p 0
  unfolding lengthed
  lengthed_off p o =
      sets_off (bytes_of file_length.width (length s)) s file_length.at p
      (λ q. omega (arith, o q, length-bytes_of file_length.width (length s)))

  -- where the front of a list is that of an image with its length in place, putting it there again changes nothing
  lengthed-front : (t : List ℕ) (k : ℕ) → least_length ≤ length s → length t ≡ length s → take k t ≡ take k (lengthed s)
      → take k (lengthed t) ≡ take k (lengthed s)
  unfolding lengthed
  lengthed-front t k h l e =
      let v = bytes_of file_length.width (length s) in
      rw (
        l,
        take-sets k v t file_length.at,
        e,
        ← take-sets k v (sets s file_length.at v) file_length.at,
        sets-twice v s
            file_length.at (omega (arith, length-bytes_of file_length.width (length s))),
      )

  sealed-front : (t : List ℕ) → length t ≡ length s → take (length s - footer_length) t ≡ take (length s - footer_length) s
      → sealed t ≡ sealed s
  unfolding sealed
  sealed-front t l e = rw (l, e)

  -- the code's two writes, one after the other
  pub finalized : (o1 o2 : List ℕ) → least_length ≤ length s
      → o1 ≡ sets s file_length.at (bytes_of file_length.width (length s))
      → o2 ≡ sets o1 (length s - footer_length) (digest (take (length s - footer_length) o1))
      → o2 ≡ sealed (lengthed s) ++ drop (length (sealed (lengthed s))) s
  finalized o1 o2 h p q =
      let l : length (lengthed s) ≡ length s = length-lengthed in
      let k : length (sealed (lengthed s)) ≡ length s = length_finalized h in
      let e : o2 ≡ sealed (lengthed s)
      =
      q ∙ rw (lengthed-is o1 p)
      (ap (λ (n : ℕ). sets (lengthed s) (n - footer_length) (digest (take (n - footer_length) (lengthed s)))) (sym l)
      ∙ sealed-stored (lengthed s) (omega arith)) in
      e ∙ sym (rw (drop_of_length-le s {i = length (sealed (lengthed s))} (omega arith)) (append-nil (sealed (lengthed s))))

-- what the footer is put over does not matter
over : (a z : List ℕ) → length z ≡ footer_length
    → sealed (lengthed (a ++ z)) ≡ footed (sets a file_length.at (bytes_of file_length.width (length a + footer_length)))
unfolding sealed lengthed
over a z l =
    let n : length (a ++ z) ≡ length a + footer_length = length-append a z ∙ rw l in
    let v = bytes_of file_length.width (length a + footer_length) in
    let m : length (sets (a ++ z) file_length.at v) - footer_length ≡ length a
    = omega (arith, length-sets (a ++ z) file_length.at v) in
    rw (n, m, take-sets (length a) v (a ++ z) file_length.at, take_at a z (length a) refl)

pub finalized_over : (a x y : List ℕ) → length x ≡ footer_length → length y ≡ footer_length
    → sealed (lengthed (a ++ x)) ≡ sealed (lengthed (a ++ y))
finalized_over a x y h k = over a x h ∙ sym (over a y k)

-- ---- what an accepted image is, and what finalize keeps of it

module _ (s t : List ℕ) (e : finalize_of s ≡ made t) where
  pub accepted : (least_length ≤ length s) × (length s ≤ size_limit) × (t ≡ sealed (lengthed s))
  unfolding finalize_of
  accepted = from (either (ltb (length s) least_length) (ltb size_limit (length s))) refl e
    where
      from : (b : Bool) → either (ltb (length s) least_length) (ltb size_limit (length s)) ≡ b
          → pick b (refused 1) (made (sealed (lengthed s))) ≡ made t
          → (least_length ≤ length s) × (length s ≤ size_limit) × (t ≡ sealed (lengthed s))
      from true f g = absurd (let z : ◌≡◌ {A = ℕ} 0 1 = cc in omega arith)
      from false f g =
          let n = either-not (ltb (length s) least_length) (ltb size_limit (length s)) f in
          (ltb-false _ _ n.0, ltb-false _ _ n.1, cc)

  -- the length stays
  pub finalize_length : length t ≡ length s
  finalize_length = rw accepted.2 (length_finalized s accepted.0)

  -- every byte stays but the file length's and the footer's
  pub finalize_keeps : (p : ℕ) → p < length s - footer_length → (file_length.at ≤ p → file_length.at + file_length.width ≤ p)
      → get_or t p 0 ≡ get_or s p 0
  finalize_keeps p h o =
      let l : length (lengthed s) ≡ length s = length-lengthed s in
      let k : footer_length ≤ length (lengthed s) = omega (arith, accepted.0) in
      let c : get_or (sealed (lengthed s)) p 0 ≡ get_or (lengthed s) p 0 =
      sym (get_or-take (length (lengthed s) - footer_length) (sealed (lengthed s)) p 0 (omega arith))
      ∙ rw (take-sealed (lengthed s) k) (get_or-take (length (lengthed s) - footer_length) (lengthed s) p 0 (omega arith)) in
      rw accepted.2 (c ∙ lengthed_off s p o)

  -- once more changes nothing
  pub finalize_twice : finalize_of t ≡ made t
  finalize_twice =
      let h = accepted.0 in
      let u = lengthed s in
      let l : length u ≡ length s = length-lengthed s in
      let k : length (sealed u) ≡ length s = length_finalized s h in
      let m : length (lengthed (sealed u)) ≡ length u = length-lengthed (sealed u) ∙ k ∙ sym l in
      let f : take (length u - footer_length) (lengthed (sealed u)) ≡ take (length u - footer_length) u
      = lengthed-front s (sealed u) (length u - footer_length) h k (take-sealed u (omega arith)) in
      rw accepted.2 (finalize_within (sealed u) (omega arith) (omega (arith, accepted.1))
      ∙ ap made (sealed-front u (lengthed (sealed u)) m f))
