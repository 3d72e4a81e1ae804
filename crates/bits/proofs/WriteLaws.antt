-- Writes to a list: one read back, one apart from what is read, one after the other, one within the other, one to a lent part.
use Rattle.std.proofs.Common.{◌≡◌, ℕ, zero, suc, ◌+◌, ◌-◌, ◌^◌, ◌<◌, ◌≤◌, eqb, List, [], ◌∷◌, ◌++◌, length, get_or, take, drop, set}
use Rattle.std.proofs.Common.{replicate, sym, refl, ap, ◌∙◌, inl, inr, append_assoc, append-nil, not-suc-le-zero, add-zero, drop-drop}
use Rattle.std.proofs.Common.{add-suc, suc-add, zero-add, add-one, arith, length-drop, length-set, take-append-drop}
use Rattle.std.proofs.Common.{drop_of_length-le, length-take-le, take_all, get_or-set_other, get_or-set_same, eqb-true}
use borrow.Author.Tests.{eqb-false}
use borrow.Rule.Slice.PartMut.{put_mid}
use lib.ListN.{length-replicate, get_or-replicate}
use lib.Seq.{set_comm, paste, paste-suc, sets, sets-eq, length-sets, set-append_left}
use lib.Seq.{set-get_or, set_out}
use Rattle.bits.specs.Bytes.{bytes_at, number, number_at, bytes_of}
use Rattle.bits.proofs.TestLaws.{which, below_or}
use Rattle.bits.proofs.ByteLaws.{bytes_at_ext, bytes_at-is, length-bytes_of, number_back}

-- the code's places i + 1, i + 2, i + 3 as `sets` goes through them
pub next1 : (i : ℕ) → i + 1 ≡ suc i
next1 i = omega arith

pub next2 : (i : ℕ) → i + 2 ≡ suc (suc i)
next2 i = omega arith

pub next3 : (i : ℕ) → i + 3 ≡ suc (suc (suc i))
next3 i = omega arith

-- ---- one write read

-- a place that the write does not touch
pub sets_off : (vs s : List ℕ) (at p : ℕ) → (at ≤ p → at + length vs ≤ p) → get_or (sets s at vs) p 0 ≡ get_or s p 0
sets_off [] s at p o = refl
sets_off (v ∷ vs) s at p o =
    sets_off vs (set s at v) (suc at) p (λ h. omega (arith, o (omega arith)))
    ∙ get_or-set_other s at p v 0 (λ e. omega (arith, o (omega arith)))

-- a place that it does
pub sets_in : (vs s : List ℕ) (at j : ℕ) → at + length vs ≤ length s → j < length vs
    → get_or (sets s at vs) (at + j) 0 ≡ get_or vs j 0
sets_in [] s at j h k = absurd (not-suc-le-zero k)
sets_in (v ∷ vs) s at zero h k =
    rw add-zero (sets_off vs (set s at v) (suc at) at (omega arith) ∙ get_or-set_same s at v 0 (omega arith))
sets_in (v ∷ vs) s at (suc j) h k =
    rw (add-suc, ← suc-add) (sets_in vs (set s at v) (suc at) j (rw length-set (omega arith)) (omega arith))

-- n bytes apart from the write are as they were: no byte of the two is the same
pub bytes_at_off : (vs s : List ℕ) (at p n : ℕ) → (at < p + n → at + length vs ≤ p)
    → bytes_at (sets s at vs) p n ≡ bytes_at s p n
bytes_at_off vs s at p n o = bytes_at_ext (sets s at vs) s n p p (λ j h. sets_off vs s at (p + j) (λ k. omega (arith, o (omega arith))))

-- the bytes that were written are read back
pub bytes_at_back : (vs s : List ℕ) (at : ℕ) → at + length vs ≤ length s → bytes_at (sets s at vs) at (length vs) ≡ vs
bytes_at_back vs s at h = bytes_at-is (sets s at vs) vs at (length vs) refl (λ j k. sets_in vs s at j h k)

-- a number of n bytes that was written is read back
pub number_at_back : (s : List ℕ) (at n x : ℕ) → at + n ≤ length s → x < 256 ^ n → number_at (sets s at (bytes_of n x)) at n ≡ x
number_at_back s at n x h k =
    let l : length (bytes_of n x) ≡ n = length-bytes_of n x in
    ap number (bytes_at-is (sets s at (bytes_of n x)) (bytes_of n x) at n l
    (λ j g. sets_in (bytes_of n x) s at j (omega arith) (omega arith)))
    ∙ number_back n x k

-- a number of m bytes apart from the n bytes that are written is as it was
pub number_at_off : (s : List ℕ) (at n x p m : ℕ) → (at < p + m → at + n ≤ p)
    → number_at (sets s at (bytes_of n x)) p m ≡ number_at s p m
number_at_off s at n x p m o = ap number (bytes_at_off (bytes_of n x) s at p m (λ h. omega (arith, o h, length-bytes_of n x)))

-- ---- two writes

pub sets_append : (a b l : List ℕ) (i : ℕ) → sets l i (a ++ b) ≡ sets (sets l i a) (i + length a) b
sets_append [] b l i = rw add-zero
sets_append (x ∷ a) b l i = rw (add-suc, ← suc-add) (sets_append a b (set l i x) (suc i))

-- what is written behind a write is written with it
pub sets_then : (l m n a b : List ℕ) (i at : ℕ) → m ≡ sets l i a → at ≡ i + length a → n ≡ sets m at b
    → n ≡ sets l i (a ++ b)
sets_then l m n a b i at p e q = q ∙ rw (p, e) (sym (sets_append a b l i))

set_append_right : (p q : List ℕ) (j x : ℕ) → set (p ++ q) (length p + j) x ≡ p ++ set q j x
set_append_right [] q j x = rw zero-add
set_append_right (y ∷ p) q j x = rw suc-add (ap (λ (l : List ℕ). y ∷ l) (set_append_right p q j x))

sets_mid : (p ys r bs : List ℕ) (j : ℕ) → j + length bs ≤ length ys → sets (p ++ (ys ++ r)) (length p + j) bs ≡ p
    ++ (sets ys j bs ++ r)
sets_mid p ys r [] j h = refl
sets_mid p ys r (x ∷ bs) j h =
    let k : j < length ys = omega arith in
    let h' : suc j + length bs ≤ length (set ys j x) = rw length-set (omega arith) in
    rw (set_append_right p (ys ++ r) j x, set-append_left ys r j x k, ← add-suc) (sets_mid p (set ys j x) r bs (suc j) h')

-- an edit within what was written is a write of the edited
pub sets-within : (l s bs : List ℕ) (i j : ℕ) → i + length s ≤ length l → j + length bs ≤ length s
    → sets (sets l i s) (i + j) bs ≡ sets l i (sets s j bs)
sets-within l s bs i j h g =
    let t : length (take i l) ≡ i = length-take-le i l (omega arith) in
    let k : length (sets s j bs) ≡ length s = length-sets s j bs in
    let m : sets (take i l ++ (s ++ drop (i + length s) l)) (length (take i l) + j) bs ≡ take i l
    ++ (sets s j bs ++ drop (i + length s) l)
    = sets_mid (take i l) s (drop (i + length s) l) bs j g in
    rw (sets-eq s l i h, sets-eq (sets s j bs) l i (omega arith), k, append_assoc (take i l) s, append_assoc (take i l) (sets s j bs))
    (rw t at m)

-- a part that is lent and written is a write to the whole
pub part_sets : (l bs : List ℕ) (a k j : ℕ) → a + k ≤ length l → j + length bs ≤ k
    → put_mid a k l (sets (take k (drop a l)) j bs) ≡ sets l (a + j) bs
part_sets l bs a k j h g =
    let e : length (take k (drop a l)) ≡ k = length-take-le k (drop a l) (rw length-drop (omega arith)) in
    let m : sets (take a l ++ (take k (drop a l) ++ drop k (drop a l))) (length (take a l) + j) bs ≡ take a l
    ++ (sets (take k (drop a l)) j bs ++ drop k (drop a l))
    = sets_mid (take a l) (take k (drop a l)) (drop k (drop a l)) bs j (omega arith) in
    let t : length (take a l) ≡ a = length-take-le a l (omega arith) in
    sym (rw (take-append-drop k (drop a l), take-append-drop a l, t) at m)

-- a part that is lent and written whole
pub part_all : {A : Type 0} (l bs : List A) (a k : ℕ) → a + k ≤ length l → length bs ≡ k → put_mid a k l bs ≡ sets l a bs
part_all l bs a k h e =
    rw (← e, sets-eq bs l a (omega arith), append_assoc (take a l), drop-drop)

-- how long the lent part is
pub length_part : {A : Type 0} (l : List A) (a k : ℕ) → a + k ≤ length l → length (take (a + k - a) (drop a l)) ≡ k
length_part l a k h = length-take-le (a + k - a) (drop a l) (rw length-drop (omega arith)) ∙ omega arith

-- ---- copies of one value, one by one, from the front on

module _ {A : Type 0} (d out : List A) (n i : ℕ) (x : A) (e : out ≡ paste d 0 (replicate n x) i) where
  pub copies_more : i < length d → i < n → set out i x ≡ paste d 0 (replicate n x) (i + 1)
  copies_more h k =
      let l : i < length (replicate n x) = rw length-replicate k in
      let v : get_or (replicate n x) i x ≡ x = get_or-replicate n i x x k in
      ap (λ (j : ℕ). set out j x) (sym (zero-add i))
      ∙ ap (λ (y : A). set out (0 + i) y) (sym v)
      ∙ rw (e, add-one) (paste-suc d 0 (replicate n x) i x (omega arith) l)

  pub copies_all : length d ≤ i → i ≤ n → n ≤ length d → out ≡ replicate n x
  copies_all h k m =
      let l : i ≡ length (replicate n x) = rw length-replicate (omega arith) in
      let z : length d ≤ 0 + i = omega arith in
      e ∙ rw (drop_of_length-le d {i = 0 + i} z, append-nil, take_all i (replicate n x) (omega arith))

-- ---- a copy, byte by byte

module _ (d s out : List ℕ) (at i : ℕ) (e : out ≡ paste d at s i) where
  pub copied_more : at + i < length d → i < length s → set out (at + i) (get_or s i 0) ≡ paste d at s (i + 1)
  copied_more h k = rw (e, add-one) (paste-suc d at s i 0 h k)

  pub copied_all : at + length s ≤ length d → i ≡ length s → out ≡ sets d at s
  copied_all h k = rw (sets-eq s d at h) (e ∙ rw (k, take_all (length s) s (omega arith)))

-- ---- a byte after a write hangs only on that byte before

set_byte : (s t : List ℕ) (at p v : ℕ) → length s ≡ length t → get_or s p 0 ≡ get_or t p 0
    → get_or (set s at v) p 0 ≡ get_or (set t at v) p 0
set_byte s t at p v l e =
    elim (which (eqb p at)) [
      | inl q ↦ rw (eqb-true p at q)
          (elim (below_or at (length s)) [
            | inl h ↦ get_or-set_same s at v 0 h ∙ sym (get_or-set_same t at v 0 (omega arith))
            | inr h ↦ rw (set_out s at v h, set_out t at v (omega arith), ← eqb-true p at q) e
          ])
      | inr q ↦ get_or-set_other s at p v 0 (eqb-false p at q) ∙ e ∙ sym (get_or-set_other t at p v 0 (eqb-false p at q))
    ]

pub sets_byte : (vs s t : List ℕ) (at p : ℕ) → length s ≡ length t → get_or s p 0 ≡ get_or t p 0
    → get_or (sets s at vs) p 0 ≡ get_or (sets t at vs) p 0
sets_byte [] s t at p l e = e
sets_byte (v ∷ vs) s t at p l e = sets_byte vs (set s at v) (set t at v) (suc at) p (simp length-set l) (set_byte s t at p v l e)

-- ---- a write that changes nothing, a write of everything

pub sets_same : (vs s : List ℕ) (at : ℕ) → ((j : ℕ) → j < length vs → get_or s (at + j) 0 ≡ get_or vs j 0) → sets s at vs ≡ s
sets_same [] s at h = refl
sets_same (v ∷ vs) s at h =
    let e : get_or s at 0 ≡ v = rw add-zero at (h 0 (omega arith)) in
    let k : set s at v ≡ s = rw (← e) (set-get_or s at 0) in
    rw k (sets_same vs s (suc at) (λ j l. rw (suc-add, ← add-suc) (h (suc j) (omega arith))))

pub sets_all : (vs s : List ℕ) → length vs ≡ length s → sets s 0 vs ≡ vs
sets_all vs s l =
    sets-eq vs s 0 (omega arith) ∙ rw (zero-add, drop_of_length-le s {i = length vs} (omega arith)) (append-nil vs)

pub sets-twice : (vs s : List ℕ) (at : ℕ) → at + length vs ≤ length s → sets (sets s at vs) at vs ≡ sets s at vs
sets-twice vs s at h = sets_same vs (sets s at vs) at (λ j k. sets_in vs s at j h k)

-- ---- a write, cut off at a place

take-set : (n : ℕ) (s : List ℕ) (i x : ℕ) → take n (set s i x) ≡ set (take n s) i x
take-set zero s i x = refl
take-set (suc n) [] i x = refl
take-set (suc n) (y ∷ s) zero x = refl
take-set (suc n) (y ∷ s) (suc i) x = ap (λ (l : List ℕ). y ∷ l) (take-set n s i x)

pub take-sets : (n : ℕ) (vs s : List ℕ) (at : ℕ) → take n (sets s at vs) ≡ sets (take n s) at vs
take-sets n [] s at = refl
take-sets n (v ∷ vs) s at = rw (take-sets n vs (set s at v) (suc at), take-set n s at v)

-- ---- two writes that are apart, in either order

set-sets : (b l : List ℕ) (i j x : ℕ) → i < j → set (sets l j b) i x ≡ sets (set l i x) j b
set-sets [] l i j x h = refl
set-sets (y ∷ b) l i j x h =
    set-sets b (set l j y) i (suc j) x (omega arith)
    ∙ ap (λ (m : List ℕ). sets m (suc j) b) (sym (set_comm l i j x y (λ e. omega arith)))

pub sets_comm : (a b l : List ℕ) (i j : ℕ) → i + length a ≤ j → sets (sets l j b) i a ≡ sets (sets l i a) j b
sets_comm [] b l i j h = refl
sets_comm (x ∷ a) b l i j h = rw (set-sets b l i j x (omega arith)) (sets_comm a b (set l i x) (suc i) j (omega arith))
