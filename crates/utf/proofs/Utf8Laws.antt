-- Well-formed UTF-8 is the bytes of its units, so that no two values have the same ones.
use mathlib.Core.Path.{◌≡◌, refl, ap, sym, ◌∙◌}
use mathlib.Core.Bool.{Bool, true, false}
use mathlib.Core.Logic.{inl, inr}
use mathlib.Core.List.{List, [], ◌∷◌, ◌++◌}
use Prim.Native.Nat.{ℕ, zero, suc, ◌+◌, ◌-◌, ◌*◌, ◌/◌, ◌%◌, ◌≤◌, ◌<◌}
use native.Mathlib.Omega.{arith}
use borrow.Author.Tests.{leb-true, eqb-true, eqb-false, lt-ltb, le-ltb, le-leb, lt-leb}
use lib.Dec.{eqb, ltb, leb}
use lib.ListN.{length, length-append}
use Rattle.bits.specs.Choice.{pick, both}
use Rattle.bits.proofs.TestLaws.{both_0, both_1, below_or}
use Rattle.utf.specs.declared.Reading.{Reading}
use Rattle.utf.specs.Utf8.{further, between, wrong, opens, reading_of, is_utf8, units_of_point, units_from, utf16}
use Rattle.utf.specs.Utf16.{bytes_of_point, is_high, point_of, none, high, utf8_of_from, utf8_of}
use Rattle.utf.proofs.ReadingLaws.{opens-ascii, opens-none, opens_two, opens_three, opens_four, opens_past, next_on}
use Rattle.utf.proofs.PieceLaws.{utf8_from, Rests, next_rested, never_wrong}
use Rattle.utf.proofs.PointLaws.{Scalar, point_read}
use Rattle.utf.proofs.Utf16Laws.{single_unit}

-- ---- a code point is taken off the front

-- a further byte of a code point is there, and is one that the reading allows
record Taken (q : Reading) (bs : List ℕ) : Type 0 where
  byte : ℕ
  rest : List ℕ
  is : bs ≡ byte ∷ rest
  least : q.lo ≤ byte
  most : byte ≤ q.hi
  valid : utf8_from (further (q.need - 1) (q.point * 64 + (byte - 0x80))) rest ≡ true

further_byte : (q : Reading) (bs : List ℕ) → q.ok ≡ true → 0 < q.need → utf8_from q bs ≡ true → Taken q bs
unfolding reading_of
further_byte q [] t n h =
    absurd (omega (arith, eqb-true q.need 0 (both_1 q.ok (eqb q.need 0) h)))
further_byte q (b ∷ bs) t n h =
    go (both (leb q.lo b) (leb b q.hi)) refl (rw (next_on q b t (λ e. omega arith)) h)
  where
    go : (a : Bool) → both (leb q.lo b) (leb b q.hi) ≡ a
        → utf8_from (pick a (further (q.need - 1) (q.point * 64 + (b - 0x80))) wrong) bs ≡ true → Taken q (b ∷ bs)
    go true e v =
        record {
          byte = b;
          rest = bs;
          is = refl;
          least = leb-true q.lo b (both_0 (leb q.lo b) (leb b q.hi) e);
          most = leb-true b q.hi (both_1 (leb q.lo b) (leb b q.hi) e);
          valid = v;
        }
    go false e v = absurd (never_wrong bs v)

-- the bytes begin with those of a code point
record First (bs : List ℕ) : Type 0 where
  point : ℕ
  rest : List ℕ
  is : bs ≡ bytes_of_point point ++ rest
  scalar : Scalar point
  valid : utf8_from (further 0 point) rest ≡ true

-- a second byte has a range of its own behind some first bytes
least_of_lem : (b k a x : ℕ) → 0x80 ≤ a → pick (eqb b k) a 0x80 ≤ x → (0x80 ≤ x) × (b ≡ k → a ≤ x)
least_of_lem b k a x h = go (eqb b k) refl
  where
    go : (t : Bool) → eqb b k ≡ t → pick t a 0x80 ≤ x → (0x80 ≤ x) × (b ≡ k → a ≤ x)
    go true e l = (omega arith, λ q. l)
    go false e l = (l, λ q. absurd (eqb-false b k e q))

most_of : (b k a x : ℕ) → a ≤ 0xBF → x ≤ pick (eqb b k) a 0xBF → (x ≤ 0xBF) × (b ≡ k → x ≤ a)
most_of b k a x h = go (eqb b k) refl
  where
    go : (t : Bool) → eqb b k ≡ t → x ≤ pick t a 0xBF → (x ≤ 0xBF) × (b ≡ k → x ≤ a)
    go true e l = (omega arith, λ q. l)
    go false e l = (l, λ q. absurd (eqb-false b k e q))

module _ (b : ℕ) (bs : List ℕ) where
  first_one : b < 0x80 → utf8_from (further 0 b) bs ≡ true → First (b ∷ bs)
  unfolding bytes_of_point
  first_one h v = record { point = b; rest = bs; is = rw (lt-ltb b 0x80 h); scalar = inl (omega arith); valid = v }

  first_two : 0xC2 ≤ b → b < 0xE0 → utf8_from (further 1 (b - 0xC0)) bs ≡ true → First (b ∷ bs)
  unfolding bytes_of_point
  first_two h g v =
      let t = further_byte (further 1 (b - 0xC0)) bs refl (omega arith) v in
      let x = t.byte in
      let c = (b - 0xC0) * 64 + (x - 0x80) in
      let l : 0x80 ≤ x = t.least in
      let m : x ≤ 0xBF = t.most in
      let e : 0xC0 + c / 64 ≡ b = omega arith in
      let f : 0x80 + c % 64 ≡ x = omega arith in
      record {
        point = c;
        rest = t.rest;
        is = ap (λ (z : List ℕ). b ∷ z) t.is ∙ rw (le-ltb c 0x80 (omega arith), lt-ltb c 0x800 (omega arith), e, f);
        scalar = inl (omega arith);
        valid = t.valid;
      }

  first_three : 0xE0 ≤ b → b < 0xF0
      → utf8_from (record { ok = true; need = 2; point = b - 0xE0; lo = pick (eqb b 0xE0) 0xA0 0x80; hi = pick (eqb b 0xED) 0x9F 0xBF }) bs
      ≡ true → First (b ∷ bs)
  unfolding bytes_of_point
  first_three h g v =
      let q : Reading
      = record { ok = true; need = 2; point = b - 0xE0; lo = pick (eqb b 0xE0) 0xA0 0x80; hi = pick (eqb b 0xED) 0x9F 0xBF } in
      let t = further_byte q bs refl (omega arith) v in
      let x = t.byte in
      let u = further_byte (further 1 ((b - 0xE0) * 64 + (x - 0x80))) t.rest refl (omega arith) t.valid in
      let y = u.byte in
      let c = ((b - 0xE0) * 64 + (x - 0x80)) * 64 + (y - 0x80) in
      let from = least_of_lem b 0xE0 0xA0 x (omega arith) t.least in
      let to = most_of b 0xED 0x9F x (omega arith) t.most in
      let l : 0x80 ≤ y = u.least in
      let m : y ≤ 0xBF = u.most in
      let low : 0x800 ≤ c
      = elim (below_or 0xE0 b) [ inl o ↦ omega (arith, from.0) | inr o ↦ omega (arith, from.0, from.1 (omega arith)) ] in
      let e : 0xE0 + c / 64 / 64 ≡ b = omega (arith, from.0, to.0) in
      let f : 0x80 + c / 64 % 64 ≡ x = omega (arith, from.0, to.0) in
      let k : 0x80 + c % 64 ≡ y = omega arith in
      record {
        point = c;
        rest = u.rest;
        is = ap (λ (z : List ℕ). b ∷ z) t.is ∙ ap (λ (z : List ℕ). b ∷ x ∷ z) u.is
            ∙ rw (le-ltb c 0x80 (omega arith), le-ltb c 0x800 low, lt-ltb c 0x10000 (omega (arith, to.0)), e, f, k);
        scalar = elim (below_or b 0xED) [
          | inl n ↦ inl (omega (arith, to.0))
          | inr n ↦ elim (below_or 0xED b) [
            | inl o ↦ inr (omega (arith, from.0), omega (arith, to.0))
            | inr o ↦ inl (omega (arith, to.1 (omega arith)))
          ]
        ];
        valid = u.valid;
      }

  first_four : 0xF0 ≤ b → b < 0xF5
      → utf8_from (record { ok = true; need = 3; point = b - 0xF0; lo = pick (eqb b 0xF0) 0x90 0x80; hi = pick (eqb b 0xF4) 0x8F 0xBF }) bs
      ≡ true → First (b ∷ bs)
  unfolding bytes_of_point
  first_four h g v =
      let q : Reading
      = record { ok = true; need = 3; point = b - 0xF0; lo = pick (eqb b 0xF0) 0x90 0x80; hi = pick (eqb b 0xF4) 0x8F 0xBF } in
      let t = further_byte q bs refl (omega arith) v in
      let x = t.byte in
      let u = further_byte (further 2 ((b - 0xF0) * 64 + (x - 0x80))) t.rest refl (omega arith) t.valid in
      let y = u.byte in
      let w = further_byte (further 1 (((b - 0xF0) * 64 + (x - 0x80)) * 64 + (y - 0x80))) u.rest refl (omega arith) u.valid in
      let z = w.byte in
      let c = (((b - 0xF0) * 64 + (x - 0x80)) * 64 + (y - 0x80)) * 64 + (z - 0x80) in
      let from = least_of_lem b 0xF0 0x90 x (omega arith) t.least in
      let to = most_of b 0xF4 0x8F x (omega arith) t.most in
      let l : 0x80 ≤ y = u.least in
      let m : y ≤ 0xBF = u.most in
      let l' : 0x80 ≤ z = w.least in
      let m' : z ≤ 0xBF = w.most in
      let low : 0x10000 ≤ c
      = elim (below_or 0xF0 b) [ inl o ↦ omega (arith, from.0) | inr o ↦ omega (arith, from.0, from.1 (omega arith)) ] in
      let upper : c < 0x110000
      = elim (below_or b 0xF4) [ inl o ↦ omega (arith, to.0) | inr o ↦ omega (arith, to.0, to.1 (omega arith)) ] in
      let e : 0xF0 + c / 64 / 64 / 64 ≡ b = omega (arith, from.0, to.0) in
      let f : 0x80 + c / 64 / 64 % 64 ≡ x = omega (arith, from.0, to.0) in
      let k : 0x80 + c / 64 % 64 ≡ y = omega arith in
      let j : 0x80 + c % 64 ≡ z = omega arith in
      record {
        point = c;
        rest = w.rest;
        is = ap (λ (z : List ℕ). b ∷ z) t.is ∙ ap (λ (z : List ℕ). b ∷ x ∷ z) u.is
            ∙ ap (λ (z : List ℕ). b ∷ x ∷ y ∷ z) w.is
            ∙ rw (le-ltb c 0x80 (omega arith), le-ltb c 0x800 (omega arith), le-ltb c 0x10000 low, e, f, k, j);
        scalar = inr (omega arith, upper);
        valid = w.valid;
      }

  -- by the rows of the table
  first_point : (r : Reading) → Rests r → utf8_from r (b ∷ bs) ≡ true → First (b ∷ bs)
  unfolding reading_of
  first_point r h v = row (ap (λ (q : Reading). utf8_from q bs) (sym (next_rested r b h)) ∙ v)
    where
      row : utf8_from (opens b) bs ≡ true → First (b ∷ bs)
      row v =
          elim (below_or b 0x80) [
            | inl a ↦ first_one a (rw (opens-ascii b a).0 v)
            | inr a ↦ elim (below_or b 0xC2) [
              | inl c ↦ absurd (never_wrong bs (rw (opens-none b a c) v))
              | inr c ↦ elim (below_or b 0xE0) [
                | inl d ↦ first_two c d (rw (opens_two b c d).0 v)
                | inr d ↦ elim (below_or b 0xF0) [
                  | inl e ↦ first_three d e (rw (opens_three b d e).0 v)
                  | inr e ↦ elim (below_or b 0xF5) [
                    | inl f ↦ first_four e f (rw (opens_four b e f).0 v)
                    | inr f ↦ absurd (never_wrong bs (rw (opens_past b f) v))
                  ]
                ]
              ]
            ]
          ]

-- ---- the units of a code point have its bytes

point_one : (c : ℕ) (us : List ℕ) → c < 0x10000 → Scalar c
    → utf8_of_from none (units_of_point c ++ us) ≡ bytes_of_point c ++ utf8_of_from none us
unfolding utf8_of_from
point_one c us h v = rw (single_unit c h) (go v)
  where
    go : Scalar c
        → pick (is_high c) (utf8_of_from (high c) us) (bytes_of_point c ++ utf8_of_from none us) ≡ bytes_of_point c ++ utf8_of_from none us
    go (inl a) = rw (lt-leb 0xD800 c a)
    go (inr a) = rw (le-leb 0xD800 c (omega (arith, a.0)), le-ltb c 0xDC00 (omega (arith, a.0)))

point_two : (c : ℕ) (us : List ℕ) → 0x10000 ≤ c → c < 0x110000
    → utf8_of_from none (units_of_point c ++ us) ≡ bytes_of_point c ++ utf8_of_from none us
unfolding utf8_of_from units_of_point
point_two c us h g =
    let a = 0xD800 + (c - 0x10000) / 0x400 in
    let e : point_of a (0xDC00 + (c - 0x10000) % 0x400) ≡ c = omega arith in
    rw (le-ltb c 0x10000 h, le-leb 0xD800 a (omega arith), lt-ltb a 0xDC00 (omega arith), e)

point_bytes : (c : ℕ) (us : List ℕ) → Scalar c → utf8_of_from none (units_of_point c ++ us) ≡ bytes_of_point c ++ utf8_of_from none us
point_bytes c us v = elim (below_or c 0x10000) [ inl a ↦ point_one c us a v | inr a ↦ point_two c us a (most v) ]
  where
    most : Scalar c → c < 0x110000
    most (inl w) = omega arith
    most (inr w) = w.1

some_byte : (c : ℕ) → 0 < length (bytes_of_point c)
unfolding bytes_of_point
some_byte c = go (ltb c 0x80) (ltb c 0x800) (ltb c 0x10000)
  where
    go : (x y z : Bool) → 0 < length (pick x (c ∷ []) (pick y ((0xC0 + c / 64) ∷ (0x80 + c % 64) ∷ [])
        (pick z ((0xE0 + c / 64 / 64) ∷ (0x80 + c / 64 % 64) ∷ (0x80 + c % 64) ∷ [])
        ((0xF0 + c / 64 / 64 / 64) ∷ (0x80 + c / 64 / 64 % 64) ∷ (0x80 + c / 64 % 64) ∷ (0x80 + c % 64) ∷ []))))
    go true y z = omega arith
    go false true z = omega arith
    go false false true = omega arith
    go false false false = omega arith

-- By induction over a bound on the length: a code point is taken off, and what is left is shorter.
bytes_back : (n : ℕ) (r : Reading) (bs : List ℕ) → length bs ≤ n → Rests r → utf8_from r bs ≡ true
    → utf8_of_from none (units_from r bs) ≡ bs
unfolding utf8_of_from units_from
bytes_back zero r [] k h v = refl
bytes_back zero r (b ∷ bs) k h v = absurd (omega arith)
bytes_back (suc n) r [] k h v = refl
bytes_back (suc n) r (b ∷ bs) k h v =
    let f = first_point b bs r h v in
    let c = f.point in
    let l : length f.rest ≤ n
    = omega (arith, some_byte c, length-append (bytes_of_point c) f.rest, ap length f.is) in
    ap (λ (l : List ℕ). utf8_of_from none (units_from r l)) f.is
    ∙ ap (λ (l : List ℕ). utf8_of_from none l) (point_read r c h f.scalar f.rest).1
    ∙ point_bytes c (units_from (further 0 c) f.rest) f.scalar
    ∙ ap (λ (l : List ℕ). bytes_of_point c ++ l) (bytes_back n (further 0 c) f.rest l (refl, refl) f.valid)
    ∙ sym f.is

pub utf8_back : (bs : List ℕ) → is_utf8 bs ≡ true → utf8_of (utf16 bs) ≡ bs
unfolding is_utf8 utf16
utf8_back bs h = bytes_back (length bs) between bs (omega arith) (refl, refl) h

-- values with the same units are the same
pub utf16_one : (a b : List ℕ) → is_utf8 a ≡ true → is_utf8 b ≡ true → utf16 a ≡ utf16 b → a ≡ b
utf16_one a b h g e = sym (utf8_back a h) ∙ ap utf8_of e ∙ utf8_back b g
