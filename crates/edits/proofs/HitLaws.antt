-- Which bytes writes touch: the same writes over two lists, the writes of groups, writes to one side of two lists.
use mathlib.Core.Path.{◌≡◌, refl, ap, sym, ◌∙◌, subst}
use mathlib.Core.Logic.{◌⊎◌, inl, inr}
use mathlib.Core.List.{List, [], ◌∷◌, ◌++◌, append_assoc}
use Prim.Native.Nat.{ℕ, zero, suc, ◌+◌, ◌-◌, ◌≤◌, ◌<◌}
use native.Mathlib.Nat.{add-zero, add-suc, suc-add}
use native.Mathlib.Omega.{arith}
use lib.ListN.{length, get_or, set, take, length-set, length-append}
use lib.Seq.{sets, length-sets, sets-eq, get_or-set_same, set-append_left, take-append-add, drop-append-add}
use Rattle.bits.proofs.TestLaws.{below_or, below}
use Rattle.bits.proofs.WriteLaws.{sets_off, sets_in, sets_byte}
use Rattle.edits.specs.Edit.{Write, write_all, groups}
use Rattle.edits.proofs.WriteLaws.{Outside, writes_byte}

-- ---- one write over two lists

-- a place is off a write, or one of its own
pub off_or : (vs : List ℕ) (at p : ℕ) → (at ≤ p → at + length vs ≤ p) ⊎ ((j : ℕ) × (j < length vs) × (at + j ≡ p))
off_or vs at p = elim (below_or p at) [
  | inl h ↦ inl (λ g. absurd (omega arith))
  | inr h ↦ elim (below_or p (at + length vs)) [ inl g ↦ inr (p - at, omega arith, omega arith) | inr g ↦ inl (λ z. g) ]
]

-- a byte that is written is the same afterwards
pub sets_hit : (vs s t : List ℕ) (at j : ℕ) → length s ≡ length t → at + j < length s → j < length vs
    → get_or (sets s at vs) (at + j) 0 ≡ get_or (sets t at vs) (at + j) 0
sets_hit [] s t at j n k h = absurd (omega arith)
sets_hit (v ∷ vs) s t at zero n k h =
    rw add-zero
    (sets_byte vs (set s at v) (set t at v) (suc at) at (simp length-set n)
    (get_or-set_same s at v 0 (omega arith) ∙ sym (get_or-set_same t at v 0 (omega arith))))
sets_hit (v ∷ vs) s t at (suc j) n k h =
    rw (add-suc, ← suc-add)
    (sets_hit vs (set s at v) (set t at v) (suc at) j (simp length-set n) (rw length-set (omega arith)) (omega arith))

-- a byte hangs only on that byte before, if the write lies within both, however long they are
pub sets-both : (vs s t : List ℕ) (at p : ℕ) → at + length vs ≤ length s → at + length vs ≤ length t
    → get_or s p 0 ≡ get_or t p 0 → get_or (sets s at vs) p 0 ≡ get_or (sets t at vs) p 0
sets-both vs s t at p h k e = elim (off_or vs at p) [
  | inl o ↦ sets_off vs s at p o ∙ e ∙ sym (sets_off vs t at p o)
  | inr (j, g, q) ↦ subst (λ (r : ℕ). get_or (sets s at vs) r 0 ≡ get_or (sets t at vs) r 0) q
      (sets_in vs s at j h g ∙ sym (sets_in vs t at j k g))
]

-- ---- the same writes over two lists of one length: no write touches a byte, or it is the same afterwards

pub hit_or : (ws : List Write) (s t : List ℕ) (p : ℕ) → length s ≡ length t → p < length s
    → Outside p ws ⊎ (get_or (write_all ws s) p 0 ≡ get_or (write_all ws t) p 0)
unfolding write_all
hit_or [] s t p n k = inl tt
hit_or (w ∷ ws) s t p n k =
    let a : List ℕ = sets s w.place w.bytes in
    let b : List ℕ = sets t w.place w.bytes in
    let m : length a ≡ length b = simp length-sets n in
    elim (hit_or ws a b p m (rw length-sets k)) [
      | inr e ↦ inr e
      | inl o ↦ elim (off_or w.bytes w.place p) [
        | inl off ↦ inl (off, o)
        | inr (j, h, q) ↦ inr (writes_byte ws a b p m (subst (λ (r : ℕ). get_or a r 0 ≡ get_or b r 0) q
            (sets_hit w.bytes s t w.place j n (omega arith) h)))
      ]
    ]

-- ---- which writes a place is outside of

pub outside_parts : (xs ys : List Write) (p : ℕ) → Outside p (xs ++ ys) → Outside p xs × Outside p ys
outside_parts [] ys p o = (tt, o)
outside_parts (w ∷ xs) ys p o = let r = outside_parts xs ys p o.1 in ((o.0, r.0), r.1)

pub outside_both : (xs ys : List Write) (p : ℕ) → Outside p xs → Outside p ys → Outside p (xs ++ ys)
outside_both [] ys p o u = u
outside_both (w ∷ xs) ys p o u = (o.0, outside_both xs ys p o.1 u)

pub outside_group : (g : ℕ → List Write) (p n : ℕ) → Outside p (groups n g) → (j : ℕ) → j < n → Outside p (g j)
unfolding groups
outside_group g p zero o j h = absurd (omega arith)
outside_group g p (suc n) o j h =
    let r = outside_parts (groups n g) (g n) p o in
    elim (below j n h) [ inl e ↦ rw e r.1 | inr k ↦ outside_group g p n r.0 j k ]

pub outside_groups : (g : ℕ → List Write) (p n : ℕ) → ((j : ℕ) → j < n → Outside p (g j)) → Outside p (groups n g)
unfolding groups
outside_groups g p zero h = tt
outside_groups g p (suc n) h =
    outside_both (groups n g) (g n) p (outside_groups g p n (λ j k. h j (omega arith))) (h n (omega arith))

pub groups_ext : (g h : ℕ → List Write) (n : ℕ) → ((j : ℕ) → j < n → g j ≡ h j) → groups n g ≡ groups n h
unfolding groups
groups_ext g h zero e = refl
groups_ext g h (suc n) e = rw (groups_ext g h n (λ j k. e j (omega arith)), e n (omega arith))

-- ---- a write to one side of two lists

pub sets-left : (v x z : List ℕ) (k : ℕ) → k + length v ≤ length x → sets (x ++ z) k v ≡ sets x k v ++ z
sets-left [] x z k h = refl
sets-left (b ∷ v) x z k h =
    rw (set-append_left x z k b (omega arith)) (sets-left v (set x k b) z (suc k) (rw length-set (omega arith)))

pub sets_right : (v x z : List ℕ) (k : ℕ) → k + length v ≤ length z → sets (x ++ z) (length x + k) v ≡ x ++ sets z k v
sets_right v x z k h =
    let e : length x + k + length v ≡ length x + (k + length v) = omega arith in
    sets-eq v (x ++ z) (length x + k) (rw length-append (omega arith))
    ∙ rw (take-append-add x z k, e, drop-append-add x z (k + length v), append_assoc x (take k z), append_assoc x (take k z ++ v))
    (ap (λ (y : List ℕ). x ++ y) (sym (sets-eq v z k h)))
