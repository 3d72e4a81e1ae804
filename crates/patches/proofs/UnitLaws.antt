-- A value reads as it is written: the units of the string that it becomes are the value's UTF-16 units.
use mathlib.Core.Path.{◌≡◌, refl, ap, sym, ◌∙◌, subst}
use mathlib.Core.Bool.{Bool, true, false}
use mathlib.Core.Logic.{inl, inr}
use mathlib.Core.List.{List, [], ◌∷◌, ◌++◌}
use Prim.Native.Nat.{ℕ, zero, suc, ◌+◌, ◌-◌, ◌*◌, ◌/◌, ◌%◌, ◌^◌, ◌≤◌, ◌<◌}
use native.Mathlib.Omega.{arith}
use borrow.Author.Tests.{eqb-true, eqb-false, ltb-true, lt-ltb}
use lib.Dec.{ltb, eqb}
use Rattle.bits.specs.Choice.{pick, both}
use Rattle.bits.specs.Bytes.{bytes_of, ascii}
use Rattle.bits.proofs.TestLaws.{which, below_or, both_1}
use Rattle.bits.proofs.ListLaws.{AllBelow, below_append}
use Rattle.image.specs.Strings.{pairs_of, units_of}
use Rattle.utf.specs.declared.Reading.{Reading}
use Rattle.utf.specs.Utf8.{Small, further, between, opens, goes_on, next_byte, units_of_point, completes, units_from, utf16, unit_bytes}
use Rattle.utf.proofs.ReadingLaws.{Reads, small-wrong, small-between, opens-ascii, opens-none, opens_two, opens_three}
use Rattle.utf.proofs.ReadingLaws.{opens_four, opens_past, goes_below, goes_above, goes_on_lem, next_wrong, next_opens, next_on}
use Rattle.string_packing.specs.Strings.{as_string}
use Rattle.patches.proofs.ValueLaws.{ascii_below}

-- ---- a reading stays small

small_as : (q r : Reading) → Reads q r → Small r
small_as q r h = subst Small h.0 h.1

opens_small : (b : ℕ) → Small (opens b)
opens_small b = elim (below_or b 0x80) [
  | inl h ↦ small_as _ _ (opens-ascii b h)
  | inr h ↦ elim (below_or b 0xC2) [
    | inl g ↦ subst Small (opens-none b h g) small-wrong
    | inr g ↦ elim (below_or b 0xE0) [
      | inl k ↦ small_as _ _ (opens_two b g k)
      | inr k ↦ elim (below_or b 0xF0) [
        | inl m ↦ small_as _ _ (opens_three b k m)
        | inr m ↦ elim (below_or b 0xF5)
            [ inl n ↦ small_as _ _ (opens_four b m n) | inr n ↦ subst Small (opens_past b n) small-wrong ]
      ]
    ]
  ]
]

goes_small : (r : Reading) (b : ℕ) → Small r → 0 < r.need → Small (goes_on r b)
goes_small r b s h = elim (below_or b r.lo) [
  | inl g ↦ subst Small (goes_below r b g) small-wrong
  | inr g ↦ elim (below_or r.hi b)
      [ inl k ↦ subst Small (goes_above r b g k) small-wrong | inr k ↦ small_as _ _ (goes_on_lem r b s h (record { least = g; most = k })) ]
]

next_small : (r : Reading) (b : ℕ) → Small r → Small (next_byte r b)
next_small r b s = elim (which r.ok) [
  | inr f ↦ subst Small (next_wrong r b f) small-wrong
  | inl t ↦ elim (which (eqb r.need 0)) [
    | inl z ↦ subst Small (next_opens r b t (eqb-true r.need 0 z)) (opens_small b)
    | inr z ↦ subst Small (next_on r b t (eqb-false r.need 0 z)) (goes_small r b s (omega (arith, eqb-false r.need 0 z)))
  ]
]

-- ---- units have 16 bits

point_units : (c : ℕ) → c < 2097152 → AllBelow 65536 (units_of_point c)
unfolding units_of_point
point_units c h = go (ltb c 0x10000) refl
  where
    go : (b : Bool) → ltb c 0x10000 ≡ b
        → AllBelow 65536 (pick b (c ∷ []) ((0xD800 + (c - 0x10000) / 0x400) ∷ (0xDC00 + (c - 0x10000) % 0x400) ∷ []))
    go true t zero = ltb-true c 0x10000 t
    go true t (suc p) = omega arith
    go false t zero = omega arith
    go false t (suc zero) = omega arith
    go false t (suc (suc p)) = omega arith

completed : (r : Reading) → Small r → AllBelow 65536 (completes r)
completed r s = go (both r.ok (eqb r.need 0)) refl
  where
    go : (b : Bool) → both r.ok (eqb r.need 0) ≡ b → AllBelow 65536 (pick b (units_of_point r.point) [])
    go true t =
        let z : r.need ≡ 0 = eqb-true r.need 0 (both_1 r.ok (eqb r.need 0) t) in
        let l : (r.point + 1) * 64 ^ 0 ≤ 2097152 = rw z at s.low in
        point_units r.point (omega arith)
    go false t = λ p. omega arith

units_below : (bs : List ℕ) (r : Reading) → Small r → AllBelow 65536 (units_from r bs)
unfolding units_from
units_below [] r s = λ p. omega arith
units_below (b ∷ bs) r s =
    let q = next_small r b s in
    below_append 65536 (omega arith) (completes (next_byte r b)) (units_from (next_byte r b) bs) (completed (next_byte r b) q)
    (units_below bs (next_byte r b) q)

-- ---- and are read back from their bytes

pairs_back : (us : List ℕ) → AllBelow 65536 us → pairs_of (unit_bytes us) ≡ us
unfolding unit_bytes pairs_of bytes_of
pairs_back [] h = refl
pairs_back (u ∷ us) h =
    let e : u % 256 + u / 256 % 256 * 256 ≡ u = omega (arith, h 0) in
    rw (e, pairs_back us (λ p. h (suc p)))

-- ---- an ASCII value is its own units

one : (b : ℕ) → b < 0x80 → units_of_point b ≡ b ∷ []
unfolding units_of_point
one b h = rw (lt-ltb b 0x10000 (omega arith))

ascii_from : (bs : List ℕ) (p : ℕ) → AllBelow 0x80 bs → units_from (further 0 p) bs ≡ bs
unfolding units_from
ascii_from [] p h = refl
ascii_from (b ∷ bs) p h =
    let e : next_byte (further 0 p) b ≡ further 0 b = sym (next_opens (further 0 p) b refl refl) ∙ sym (opens-ascii b (h 0)).0 in
    ap (λ (r : Reading). completes r ++ units_from r bs) e ∙ rw (one b (h 0), ascii_from bs b (λ q. h (suc q)))

-- ---- the string that a value becomes has the value's units

pub value_units : (value : List ℕ) → units_of (as_string value) ≡ utf16 value
unfolding as_string units_of utf16
value_units value = go (ascii value) refl
  where
    go : (b : Bool) → ascii value ≡ b
        → units_of
        (pick b (record { wide = false; bytes = value }) (record { wide = true; bytes = unit_bytes (units_from between value) }))
        ≡ units_from between value
    go true t = sym (ascii_from value 0 (ascii_below value t))
    go false t = pairs_back (units_from between value) (units_below value between small-between)
