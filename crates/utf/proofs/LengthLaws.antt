-- How many units a value has: never more than bytes and, where it is UTF-8, no fewer than a quarter of them.
use mathlib.Core.Path.{◌≡◌, refl, sym, ◌∙◌}
use mathlib.Core.Bool.{Bool, true, false}
use mathlib.Core.Logic.{inl, inr}
use mathlib.Core.List.{List, [], ◌∷◌}
use Prim.Native.Nat.{ℕ, ◌+◌, ◌-◌, ◌*◌, ◌/◌, ◌%◌, ◌≤◌}
use native.Mathlib.Omega.{arith}
use borrow.Author.Tests.{eqb-true, eqb-false, eq-eqb}
use lib.Dec.{leb, ltb, eqb}
use lib.ListN.{length, length-append}
use Rattle.bits.specs.Choice.{pick, both}
use Rattle.bits.proofs.TestLaws.{which, both_0, both_1}
use Rattle.utf.specs.declared.Reading.{Reading}
use Rattle.utf.specs.Utf8.{further, between, opens, next_byte, reading_of, is_utf8}
use Rattle.utf.specs.Utf8.{units_of_point, completes, units_from, utf16}
use Rattle.utf.proofs.UnitLaws.{waits, next_weight}

-- ---- never more than bytes

units_weight : (r : Reading) (bs : List ℕ) → length (units_from r bs) ≤ length bs + waits r
unfolding units_from
units_weight r [] = omega arith
units_weight r (b ∷ bs) =
    let q : Reading = next_byte r b in
    omega (arith, length-append (completes q) (units_from q bs), units_weight q bs, next_weight r b)

pub units_most : (bs : List ℕ) → length (utf16 bs) ≤ length bs
unfolding utf16
units_most bs = omega (arith, units_weight between bs)

-- ---- no fewer than a quarter

-- a reading that ends between two code points
abbrev Ends : Reading → Type 0
Ends r = (r.ok ≡ true) × (r.need ≡ 0)

-- the bytes that are not paid for yet: those of a code point that is open, of which four at most make one
abbrev owed : Reading → ℕ
owed r = pick (eqb r.need 0) 0 (4 - r.need)

at_least_one : (c : ℕ) → 1 ≤ length (units_of_point c)
unfolding units_of_point
at_least_one c = go (ltb c 0x10000)
  where
    go : (t : Bool) → 1 ≤ length (pick t (c ∷ []) ((0xD800 + (c - 0x10000) / 0x400) ∷ (0xDC00 + (c - 0x10000) % 0x400) ∷ []))
    go true = omega arith
    go false = omega arith

-- a byte that is taken: k bytes are paid for by the units that it completes and by the code point that stays open
abbrev Paid : ℕ → Reading → Type 0
Paid k r = r.ok ≡ true → (r.need ≤ 3) × (k ≤ length (completes r) * 4 + owed r)

never : {A : Type 0} → ◌≡◌ {A = Bool} false true → A
never e = absurd (let z : ◌≡◌ {A = ℕ} 0 1 = cc in omega arith)

pick_paid : (t : Bool) (a b : Reading) (k : ℕ) → (t ≡ true → Paid k a) → (t ≡ false → Paid k b) → Paid k (pick t a b)
pick_paid true a b k h g = h refl
pick_paid false a b k h g = g refl

opens_paid : (b : ℕ) → Paid 1 (opens b)
unfolding opens
opens_paid b =
    pick_paid (ltb b 0x80) _ _ 1 (λ t o. (omega arith, omega (arith, at_least_one b)))
    (λ f. pick_paid (ltb b 0xC2) _ _ 1 (λ t o. never o)
    (λ f. pick_paid (ltb b 0xE0) _ _ 1 (λ t o. (omega arith, omega arith))
    (λ f. pick_paid (ltb b 0xF0) _ _ 1 (λ t o. (omega arith, omega arith))
    (λ f. pick_paid (ltb b 0xF5) _ _ 1 (λ t o. (omega arith, omega arith)) (λ f o. never o)))))

further_paid : (n p k : ℕ) → n ≤ 2 → k + n ≤ 4 → Paid k (further n p)
further_paid n p k h g o = elim (which (eqb n 0)) [
  | inl t ↦ rw t (omega arith, omega (arith, at_least_one p))
  | inr f ↦ rw f (omega arith, omega (arith, eqb-false n 0 f))
]

next_paid : (r : Reading) (b : ℕ) → r.need ≤ 3 → Paid (1 + owed r) (next_byte r b)
unfolding next_byte
next_paid r b h =
    pick_paid r.ok _ _ (1 + owed r)
    (λ t. pick_paid (eqb r.need 0) _ _ (1 + owed r) (λ z. rw z (opens_paid b))
    (λ z. pick_paid (both (leb r.lo b) (leb b r.hi)) _ _ (1 + owed r)
    (λ y. rw z (further_paid (r.need - 1) (r.point * 64 + (b - 0x80)) (1 + (4 - r.need)) (omega arith)
    (omega (arith, eqb-false r.need 0 z))))
    (λ y o. never o)))
    (λ f o. never o)

-- a wrong byte is not made good
stays_wrong : (r : Reading) (bs : List ℕ) → r.ok ≡ false → (reading_of r bs).ok ≡ false
unfolding reading_of next_byte
stays_wrong r [] h = h
stays_wrong r (b ∷ bs) h = stays_wrong (next_byte r b) bs (rw h)

bytes_paid : (r : Reading) (bs : List ℕ) → r.need ≤ 3 → Ends (reading_of r bs)
    → length bs + owed r ≤ length (units_from r bs) * 4
unfolding reading_of units_from
bytes_paid r [] h e = rw (eq-eqb r.need 0 e.1) (omega arith)
bytes_paid r (b ∷ bs) h e =
    let q : Reading = next_byte r b in
    elim (which q.ok) [
      | inl t ↦ let (few, paid) = next_paid r b h t in
          omega (arith, paid, bytes_paid q bs few e, length-append (completes q) (units_from q bs))
      | inr f ↦ let z : ◌≡◌ {A = Bool} false true = sym (stays_wrong q bs f) ∙ e.0 in never z
    ]

pub units_least : (bs : List ℕ) → is_utf8 bs ≡ true → length bs ≤ length (utf16 bs) * 4
unfolding is_utf8 utf16
units_least bs t =
    let r : Reading = reading_of between bs in
    omega (
      arith,
      bytes_paid between bs (omega arith)
          (both_0 r.ok (eqb r.need 0) t, eqb-true r.need 0 (both_1 r.ok (eqb r.need 0) t)),
    )
