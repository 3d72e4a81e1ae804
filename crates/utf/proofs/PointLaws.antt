-- The bytes of a code point are read as that code point.
use mathlib.Core.Path.{◌≡◌, refl, ap, sym, ◌∙◌}
use mathlib.Core.Bool.{Bool, true, false}
use mathlib.Core.Logic.{◌⊎◌, inl, inr}
use mathlib.Core.List.{List, [], ◌∷◌, ◌++◌}
use Prim.Native.Nat.{ℕ, ◌+◌, ◌-◌, ◌*◌, ◌/◌, ◌%◌, ◌≤◌, ◌<◌}
use native.Mathlib.Omega.{arith}
use borrow.Author.Tests.{eqb-true, ne_eqb, lt-ltb, le-ltb}
use lib.Dec.{eqb}
use Rattle.bits.specs.Choice.{pick, both}
use Rattle.bits.proofs.TestLaws.{below_or}
use Rattle.utf.specs.declared.Reading.{Reading}
use Rattle.utf.specs.Utf8.{Small, further, next_byte, reading_of, units_of_point, completes, units_from}
use Rattle.utf.specs.Utf16.{bytes_of_point}
use Rattle.utf.proofs.ReadingLaws.{opens-ascii, opens_two, opens_three, opens_four, Allows, goes_on_lem, next_on}
use Rattle.utf.proofs.PieceLaws.{Rests, next_rested}

-- a code point that UTF-8 has: no surrogate
abbrev pub Scalar : ℕ → Type 0
Scalar c = (c < 0xD800) ⊎ ((0xE000 ≤ c) × (c < 0x110000))

-- one further byte
step_on : (r : Reading) (b : ℕ) → Small r → r.ok ≡ true → 0 < r.need → Allows r b
    → (next_byte r b ≡ further (r.need - 1) (r.point * 64 + (b - 0x80)))
    × Small (further (r.need - 1) (r.point * 64 + (b - 0x80)))
step_on r b s t n a =
    let g = goes_on_lem r b s n a in
    (sym (g.0 ∙ next_on r b t (λ e. omega arith)), g.1)

-- bytes are read from a reading on as those of a code point, and complete its units
abbrev pub ReadsPoint : Reading → List ℕ → ℕ → Type 0
ReadsPoint r bs c = (rest : List ℕ) → (reading_of r (bs ++ rest) ≡ reading_of (further 0 c) rest)
    × (units_from r (bs ++ rest) ≡ units_of_point c ++ units_from (further 0 c) rest)

-- a byte that is not the last
more : (r : Reading) (b c : ℕ) (bs : List ℕ) (q : Reading) → next_byte r b ≡ q → 0 < q.need → ReadsPoint q bs c
    → ReadsPoint r (b ∷ bs) c
unfolding reading_of units_from
more r b c bs q e n g rest =
    let z : completes q ≡ [] = nothing q.ok in (
      ap (λ (x : Reading). reading_of x (bs ++ rest)) e ∙ (g rest).0,
      ap (λ (x : Reading). completes x ++ units_from x (bs ++ rest)) e ∙ rw z (g rest).1,
    )
  where
    nothing : (t : Bool) → pick (both t (eqb q.need 0)) (units_of_point q.point) [] ≡ []
    nothing true = rw (ne_eqb q.need 0 (λ f. omega arith))
    nothing false = refl

-- the last one
last : (r : Reading) (b c : ℕ) → next_byte r b ≡ further 0 c → ReadsPoint r (b ∷ []) c
unfolding reading_of units_from
last r b c e rest = (ap (λ (x : Reading). reading_of x rest) e, ap (λ (x : Reading). completes x ++ units_from x rest) e)

-- ---- by the number of bytes

module _ (r : Reading) (c : ℕ) (h : Rests r) where
  one_byte : c < 0x80 → ReadsPoint r (c ∷ []) c
  one_byte k = last r c c (next_rested r c h ∙ sym (opens-ascii c k).0)

  two_bytes : 0x80 ≤ c → c < 0x800 → ReadsPoint r ((0xC0 + c / 64) ∷ (0x80 + c % 64) ∷ []) c
  two_bytes k l =
      let b = 0xC0 + c / 64 in
      let o = opens_two b (omega arith) (omega arith) in
      let q : Reading = further 1 (b - 0xC0) in
      let s = step_on q (0x80 + c % 64) o.1 refl (omega arith) (record { least = omega arith; most = omega arith }) in
      let e : (b - 0xC0) * 64 + (0x80 + c % 64 - 0x80) ≡ c = omega arith in
      more r b c ((0x80 + c % 64) ∷ []) q (next_rested r b h ∙ sym o.0) (omega arith) (last q (0x80 + c % 64) c (s.0 ∙ rw e))

  three_bytes : 0x800 ≤ c → c < 0x10000 → Scalar c
      → ReadsPoint r ((0xE0 + c / 64 / 64) ∷ (0x80 + c / 64 % 64) ∷ (0x80 + c % 64) ∷ []) c
  three_bytes k l v =
      let b = 0xE0 + c / 64 / 64 in
      let o = opens_three b (omega arith) (omega arith) in
      let q : Reading
      = record { ok = true; need = 2; point = b - 0xE0; lo = pick (eqb b 0xE0) 0xA0 0x80; hi = pick (eqb b 0xED) 0x9F 0xBF } in
      let s
      = step_on q (0x80 + c / 64 % 64) o.1 refl (omega arith)
      (record { least = low (eqb b 0xE0) refl; most = upper (eqb b 0xED) refl v }) in
      let p : Reading = further 1 ((b - 0xE0) * 64 + (0x80 + c / 64 % 64 - 0x80)) in
      let u = step_on p (0x80 + c % 64) s.1 refl (omega arith) (record { least = omega arith; most = omega arith }) in
      let e : ((b - 0xE0) * 64 + (0x80 + c / 64 % 64 - 0x80)) * 64 + (0x80 + c % 64 - 0x80) ≡ c = omega arith in
      more r b c ((0x80 + c / 64 % 64) ∷ (0x80 + c % 64) ∷ []) q (next_rested r b h ∙ sym o.0) (omega arith)
      (more q (0x80 + c / 64 % 64) c ((0x80 + c % 64) ∷ []) p s.0 (omega arith) (last p (0x80 + c % 64) c (u.0 ∙ rw e)))
    where
      low : (t : Bool) → eqb (0xE0 + c / 64 / 64) 0xE0 ≡ t → pick t 0xA0 0x80 ≤ 0x80 + c / 64 % 64
      low true e = omega (arith, eqb-true (0xE0 + c / 64 / 64) 0xE0 e)
      low false e = omega arith

      upper : (t : Bool) → eqb (0xE0 + c / 64 / 64) 0xED ≡ t → Scalar c → 0x80 + c / 64 % 64 ≤ pick t 0x9F 0xBF
      upper true e (inl w) = omega (arith, eqb-true (0xE0 + c / 64 / 64) 0xED e)
      upper true e (inr w) = omega (arith, eqb-true (0xE0 + c / 64 / 64) 0xED e, w.0)
      upper false e w = omega arith

  four_bytes : 0x10000 ≤ c → c < 0x110000
      → ReadsPoint r ((0xF0 + c / 64 / 64 / 64) ∷ (0x80 + c / 64 / 64 % 64) ∷ (0x80 + c / 64 % 64) ∷ (0x80 + c % 64) ∷ []) c
  four_bytes k l =
      let b = 0xF0 + c / 64 / 64 / 64 in
      let o = opens_four b (omega arith) (omega arith) in
      let q : Reading
      = record { ok = true; need = 3; point = b - 0xF0; lo = pick (eqb b 0xF0) 0x90 0x80; hi = pick (eqb b 0xF4) 0x8F 0xBF } in
      let s
      = step_on q (0x80 + c / 64 / 64 % 64) o.1 refl (omega arith)
      (record { least = low (eqb b 0xF0) refl; most = upper (eqb b 0xF4) refl }) in
      let p : Reading = further 2 ((b - 0xF0) * 64 + (0x80 + c / 64 / 64 % 64 - 0x80)) in
      let u = step_on p (0x80 + c / 64 % 64) s.1 refl (omega arith) (record { least = omega arith; most = omega arith }) in
      let w : Reading = further 1 (p.point * 64 + (0x80 + c / 64 % 64 - 0x80)) in
      let x = step_on w (0x80 + c % 64) u.1 refl (omega arith) (record { least = omega arith; most = omega arith }) in
      let e : (((b - 0xF0) * 64 + (0x80 + c / 64 / 64 % 64 - 0x80)) * 64 + (0x80 + c / 64 % 64 - 0x80)) * 64 + (0x80 + c % 64 - 0x80)
      ≡ c
      = omega arith in
      more r b c ((0x80 + c / 64 / 64 % 64) ∷ (0x80 + c / 64 % 64) ∷ (0x80 + c % 64) ∷ []) q (next_rested r b h ∙ sym o.0)
      (omega arith)
      (more q (0x80 + c / 64 / 64 % 64) c ((0x80 + c / 64 % 64) ∷ (0x80 + c % 64) ∷ []) p s.0 (omega arith)
      (more p (0x80 + c / 64 % 64) c ((0x80 + c % 64) ∷ []) w u.0 (omega arith) (last w (0x80 + c % 64) c (x.0 ∙ rw e))))
    where
      low : (t : Bool) → eqb (0xF0 + c / 64 / 64 / 64) 0xF0 ≡ t → pick t 0x90 0x80 ≤ 0x80 + c / 64 / 64 % 64
      low true e = omega (arith, eqb-true (0xF0 + c / 64 / 64 / 64) 0xF0 e)
      low false e = omega arith

      upper : (t : Bool) → eqb (0xF0 + c / 64 / 64 / 64) 0xF4 ≡ t → 0x80 + c / 64 / 64 % 64 ≤ pick t 0x8F 0xBF
      upper true e = omega (arith, eqb-true (0xF0 + c / 64 / 64 / 64) 0xF4 e)
      upper false e = omega arith

  pub point_read : Scalar c → ReadsPoint r (bytes_of_point c) c
  unfolding bytes_of_point
  point_read v =
      elim (below_or c 0x80) [
        | inl a ↦ rw (lt-ltb c 0x80 a) (one_byte a)
        | inr a ↦ elim (below_or c 0x800) [
          | inl b ↦ rw (le-ltb c 0x80 a, lt-ltb c 0x800 b) (two_bytes a b)
          | inr b ↦ elim (below_or c 0x10000) [
            | inl d ↦ rw (le-ltb c 0x80 a, le-ltb c 0x800 b, lt-ltb c 0x10000 d) (three_bytes b d v)
            | inr d ↦ rw (le-ltb c 0x80 a, le-ltb c 0x800 b, le-ltb c 0x10000 d) (four_bytes d (most v))
          ]
        ]
      ]
    where
      most : Scalar c → c < 0x110000
      most (inl w) = omega arith
      most (inr w) = w.1
