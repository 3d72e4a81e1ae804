-- Lists that are the same: the test says so exactly where they are one list.
use mathlib.Core.Path.{◌≡◌, refl, ap}
use mathlib.Core.Bool.{Bool, true, false, ◌&&◌}
use mathlib.Core.List.{List, [], ◌∷◌}
use Prim.Native.Nat.{ℕ}
use native.Mathlib.Omega.{arith}
use borrow.Author.Tests.{eqb-true, eq-eqb}
use lib.Dec.{eqb}
use lib.Pointwise.{pointwise}
use Rattle.bits.specs.Choice.{both}
use lib.ListN.{length}
use Rattle.bits.proofs.TestLaws.{both_0, both_1}
use Rattle.footer.specs.Footer.{same}

-- the standard's comparison of two slices
and_both : (p q : Bool) → p && q ≡ both p q
and_both true q = refl
and_both false q = refl

pub pointwise-same : (a b : List ℕ) → pointwise eqb a b ≡ same a b
unfolding same
pointwise-same [] [] = refl
pointwise-same [] (y ∷ b) = refl
pointwise-same (x ∷ a) [] = refl
pointwise-same (x ∷ a) (y ∷ b) = rw (pointwise-same a b) (and_both (eqb x y) (same a b))

pub same-is : (a b : List ℕ) → same a b ≡ true → a ≡ b
unfolding same
same-is [] [] t = refl
same-is [] (y ∷ b) t = absurd (let z : ◌≡◌ {A = ℕ} 0 1 = cc in omega arith)
same-is (x ∷ a) [] t = absurd (let z : ◌≡◌ {A = ℕ} 0 1 = cc in omega arith)
same-is (x ∷ a) (y ∷ b) t = rw (eqb-true x y (both_0 (eqb x y) (same a b) t), same-is a b (both_1 (eqb x y) (same a b) t))

pub same_self : (a : List ℕ) → same a a ≡ true
unfolding same
same_self [] = refl
same_self (x ∷ a) = rw (eq-eqb x x refl) (same_self a)

pub longer_differs : (a b : List ℕ) → (length a ≡ length b → ⊥) → false ≡ same a b
longer_differs a b h = go (same a b) refl
  where
    go : (r : Bool) → same a b ≡ r → false ≡ r
    go true e = absurd (h (ap length (same-is a b e)))
    go false e = refl
