-- Valid UTF-16 and UTF-8 are two forms of the same text: the bytes of units are read back as those units.
use mathlib.Core.Path.{◌≡◌, refl, ap, sym, ◌∙◌}
use mathlib.Core.Bool.{Bool, true, false}
use mathlib.Core.Logic.{inl, inr}
use mathlib.Core.List.{List, [], ◌∷◌, ◌++◌}
use Prim.Native.Nat.{ℕ, suc, ◌+◌, ◌-◌, ◌/◌, ◌%◌, ◌≤◌, ◌<◌}
use native.Mathlib.Omega.{arith}
use borrow.Author.Tests.{lt-ltb, le-ltb, le-leb, leb-true, ltb-true}
use lib.Dec.{eqb, ltb, leb}
use Rattle.bits.specs.Choice.{pick, both}
use Rattle.bits.proofs.TestLaws.{both_0, both_1, below_or}
use Rattle.bits.proofs.ListLaws.{AllBelow}
use Rattle.utf.specs.declared.Reading.{Reading}
use Rattle.utf.specs.Utf8.{further, between, reading_of, is_utf8, units_of_point, units_from, utf16}
use Rattle.utf.specs.Utf16.{bytes_of_point, is_high, is_low, point_of, Waiting, none, high}
use Rattle.utf.specs.Utf16.{is_utf16_from, is_utf16, utf8_of_from, utf8_of}
use Rattle.utf.proofs.PieceLaws.{utf8_from, Rests}
use Rattle.utf.proofs.PointLaws.{Scalar, point_read}

-- what waits is a high surrogate
abbrev Waits : Waiting → Type 0
Waits none = Unit {0}
Waits (high h) = is_high h ≡ true

-- and stands before the units
abbrev front : Waiting → List ℕ → List ℕ
front none us = us
front (high h) us = h ∷ us

never : {A : Type 0} → ◌≡◌ {A = Bool} false true → A
never e = absurd (let z : ◌≡◌ {A = ℕ} 0 1 = cc in omega arith)

bounds : (u a b : ℕ) → both (leb a u) (ltb u b) ≡ true → (a ≤ u) × (u < b)
bounds u a b h = (leb-true a u (both_0 (leb a u) (ltb u b) h), ltb-true u b (both_1 (leb a u) (ltb u b) h))

-- a unit that is no surrogate is a code point
no_surrogate : (u : ℕ) → is_high u ≡ false → is_low u ≡ false → u < 0x10000 → Scalar u
no_surrogate u h l k =
    elim (below_or u 0xD800) [
      | inl a ↦ inl a
      | inr a ↦ elim (below_or u 0xE000) [
        | inr b ↦ inr (b, omega arith)
        | inl b ↦ elim (below_or u 0xDC00) [
          | inl c ↦ never (sym (rw (le-leb 0xD800 u a, lt-ltb u 0xDC00 c) at h))
          | inr c ↦ never (sym (rw (le-leb 0xDC00 u c, lt-ltb u 0xE000 b) at l))
        ]
      ]
    ]

pub single_unit : (u : ℕ) → u < 0x10000 → units_of_point u ≡ u ∷ []
unfolding units_of_point
single_unit u h = rw (lt-ltb u 0x10000 h)

-- two surrogates are those of their code point
module _ (h u : ℕ) (a : is_high h ≡ true) (b : is_low u ≡ true) where
  pair_scalar : Scalar (point_of h u)
  pair_scalar =
      let x = bounds h 0xD800 0xDC00 a in
      let y = bounds u 0xDC00 0xE000 b in
      inr (omega arith, omega (arith, x.0, x.1, y.0, y.1))

  pair_units : units_of_point (point_of h u) ≡ h ∷ u ∷ []
  unfolding units_of_point
  pair_units =
      let x = bounds h 0xD800 0xDC00 a in
      let y = bounds u 0xDC00 0xE000 b in
      let p : 0xD800 + (point_of h u - 0x10000) / 0x400 ≡ h = omega (arith, x.0, y.0, y.1) in
      let q : 0xDC00 + (point_of h u - 0x10000) % 0x400 ≡ u = omega (arith, x.0, y.0, y.1) in
      rw (le-ltb (point_of h u) 0x10000 (omega arith), p, q)

-- bytes are UTF-8 from a reading on, and their units are those
abbrev Back : Reading → List ℕ → List ℕ → Type 0
Back r bs us = (utf8_from r bs ≡ true) × (units_from r bs ≡ us)

-- one code point more in front
point_back : (r : Reading) (c : ℕ) (bs us : List ℕ) → Rests r → Scalar c → Back (further 0 c) bs us
    → Back r (bytes_of_point c ++ bs) (units_of_point c ++ us)
point_back r c bs us h v b =
    let p = point_read r c h v bs in
    (ap (λ (q : Reading). both q.ok (eqb q.need 0)) p.0 ∙ b.0, p.1 ∙ rw b.1)

-- By induction over the units: a unit is a code point, or waits for its second half.
units_back : (us : List ℕ) (w : Waiting) (r : Reading) → Rests r → Waits w → AllBelow 0x10000 us → is_utf16_from w us ≡ true
    → Back r (utf8_of_from w us) (front w us)
unfolding is_utf16_from utf8_of_from units_from reading_of
units_back [] none r h s k v = (rw (h.0, h.1), refl)
units_back [] (high x) r h s k v = never v
units_back (u ∷ us) (high x) r h s k v =
    go (is_low u) refl v (units_back us none (further 0 (point_of x u)) (refl, refl) tt (λ i. k (suc i)))
  where
    go : (t : Bool) → is_low u ≡ t → pick t (is_utf16_from none us) false ≡ true
        → (is_utf16_from none us ≡ true → Back (further 0 (point_of x u)) (utf8_of_from none us) us)
        → Back r (bytes_of_point (point_of x u) ++ utf8_of_from none us) (x ∷ u ∷ us)
    go false t e ih = never e
    go true t e ih =
        rw (pair_units x u s t) at (point_back r (point_of x u) (utf8_of_from none us) us h (pair_scalar x u s t) (ih e))
units_back (u ∷ us) none r h s k v =
    go (is_high u) refl (is_low u) refl v (λ a. units_back us (high u) r h a (λ i. k (suc i)))
    (units_back us none (further 0 u) (refl, refl) tt (λ i. k (suc i)))
  where
    go : (t : Bool) → is_high u ≡ t → (l : Bool) → is_low u ≡ l
        → pick t (is_utf16_from (high u) us) (pick l false (is_utf16_from none us)) ≡ true
        → (is_high u ≡ true → is_utf16_from (high u) us ≡ true → Back r (utf8_of_from (high u) us) (u ∷ us))
        → (is_utf16_from none us ≡ true → Back (further 0 u) (utf8_of_from none us) us)
        → Back r (pick t (utf8_of_from (high u) us) (bytes_of_point u ++ utf8_of_from none us)) (u ∷ us)
    go true t l _ e a b = a t e
    go false t true l e a b = never e
    go false t false l e a b =
        rw (single_unit u (k 0)) at (point_back r u (utf8_of_from none us) us h (no_surrogate u t l (k 0)) (b e))

module _ (us : List ℕ) (k : AllBelow 0x10000 us) (v : is_utf16 us ≡ true) where
  pub utf16_back : utf16 (utf8_of us) ≡ us
  unfolding utf16
  utf16_back = (units_back us none between (refl, refl) tt k v).1

  pub utf16_utf8 : is_utf8 (utf8_of us) ≡ true
  unfolding is_utf8
  utf16_utf8 = (units_back us none between (refl, refl) tt k v).0
