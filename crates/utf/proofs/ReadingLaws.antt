-- A reading, byte by byte: each way through the table, and the bound that the code's sums need.
use mathlib.Core.Path.{◌≡◌, refl, ap, sym, ◌∙◌}
use mathlib.Core.Bool.{Bool, true, false}
use mathlib.Core.List.{List, [], ◌∷◌}
use Prim.Native.Nat.{ℕ, zero, suc, ◌+◌, ◌-◌, ◌*◌, ◌/◌, ◌%◌, ◌^◌, ◌≤◌, ◌<◌}
use native.Mathlib.Nat.{one-le-pow, not-suc-le-zero, pow-suc, mul_assoc, mul_comm, mul-le-mul_right, mul-le-mul_left, le_trans}
use native.Mathlib.Numerals.{add-one}
use native.Mathlib.Omega.{arith}
use borrow.Author.Tests.{lt-ltb, le-ltb, le-leb, lt-leb, eq-eqb, ne_eqb}
use lib.Dec.{eqb}
use lib.ListN.{length, get_or, drop, drop_of_length-le}
use lib.Seq.{drop-cons}
use Rattle.bits.specs.Choice.{pick}
use Rattle.utf.specs.declared.Reading.{Reading}
use Rattle.utf.specs.Utf8.{Small, further, between, wrong, opens, goes_on, next_byte, reading_of}
use Rattle.utf.specs.Utf8.{units_of_point, completes, is_utf8, is_well}

pub small-wrong : Small wrong
small-wrong = record { few = omega arith; low = omega arith; from = omega arith; to = omega arith }

pub small-between : Small between
small-between = record { few = omega arith; low = omega arith; from = omega arith; to = omega arith }

-- what a function that gives a reading promises of it
abbrev pub Reads : Reading → Reading → Type 0
Reads q r = (q ≡ r) × Small q

pub pick_from : (t : Bool) (a b k : ℕ) → k ≤ a → k ≤ b → k ≤ pick t a b
pick_from true a b k h g = h
pick_from false a b k h g = g

pick_to : (t : Bool) (a b k : ℕ) → a ≤ k → b ≤ k → pick t a b ≤ k
pick_to true a b k h g = h
pick_to false a b k h g = g

-- ---- the first byte, row by row

module _ (b : ℕ) where
  pub opens-ascii : b < 0x80 → Reads (further 0 b) (opens b)
  unfolding opens
  opens-ascii h = rw (lt-ltb b 0x80 h) (refl, record { few = omega arith; low = omega arith; from = omega arith; to = omega arith })

  pub opens-none : 0x80 ≤ b → b < 0xC2 → wrong ≡ opens b
  unfolding opens
  opens-none h g = rw (le-ltb b 0x80 h, lt-ltb b 0xC2 g)

  pub opens_two : 0xC2 ≤ b → b < 0xE0 → Reads (further 1 (b - 0xC0)) (opens b)
  unfolding opens
  opens_two h g =
      rw (le-ltb b 0x80 (omega arith), le-ltb b 0xC2 h, lt-ltb b 0xE0 g)
      (refl, record { few = omega arith; low = omega arith; from = omega arith; to = omega arith })

  pub opens_three : 0xE0 ≤ b → b < 0xF0
      → Reads (record { ok = true; need = 2; point = b - 0xE0; lo = pick (eqb b 0xE0) 0xA0 0x80; hi = pick (eqb b 0xED) 0x9F 0xBF })
      (opens b)
  unfolding opens
  opens_three h g =
      let l = pick_from (eqb b 0xE0) 0xA0 0x80 128 (omega arith) (omega arith) in
      let u = pick_to (eqb b 0xED) 0x9F 0xBF 191 (omega arith) (omega arith) in
      rw (le-ltb b 0x80 (omega arith), le-ltb b 0xC2 (omega arith), le-ltb b 0xE0 h, lt-ltb b 0xF0 g)
      (refl, record { few = omega arith; low = omega arith; from = l; to = u })

  pub opens_four : 0xF0 ≤ b → b < 0xF5
      → Reads (record { ok = true; need = 3; point = b - 0xF0; lo = pick (eqb b 0xF0) 0x90 0x80; hi = pick (eqb b 0xF4) 0x8F 0xBF })
      (opens b)
  unfolding opens
  opens_four h g =
      let l = pick_from (eqb b 0xF0) 0x90 0x80 128 (omega arith) (omega arith) in
      let u = pick_to (eqb b 0xF4) 0x8F 0xBF 191 (omega arith) (omega arith) in
      rw (le-ltb b 0x80 (omega arith), le-ltb b 0xC2 (omega arith), le-ltb b 0xE0 (omega arith), le-ltb b 0xF0 h, lt-ltb b 0xF5 g)
      (refl, record { few = omega arith; low = omega arith; from = l; to = u })

  pub opens_past : 0xF5 ≤ b → wrong ≡ opens b
  unfolding opens
  opens_past h =
      rw (
        le-ltb b 0x80 (omega arith),
        le-ltb b 0xC2 (omega arith),
        le-ltb b 0xE0 (omega arith),
        le-ltb b 0xF0 (omega arith),
        le-ltb b 0xF5
            h,
      )

-- ---- a further byte

-- one byte less to come, six bits more of the point
grown : (m p x : ℕ) → (p + 1) * 64 ^ suc m ≤ 2097152 → x ≤ 63 → (p * 64 + x + 1) * 64 ^ m ≤ 2097152
grown m p x h k =
    let a : p * 64 + x + 1 ≤ (p + 1) * 64 = omega arith in
    let e : (p + 1) * 64 * 64 ^ m ≡ (p + 1) * 64 ^ suc m
    = mul_assoc (p + 1) 64 (64 ^ m) ∙ ap (λ (q : ℕ). (p + 1) * q) (mul_comm 64 (64 ^ m) ∙ sym (pow-suc 64 m)) in
    le_trans (mul-le-mul_right (64 ^ m) a) (rw e h)

pub point_low : (r : Reading) → Small r → 0 < r.need → r.point * 64 + 64 ≤ 2097152
point_low r s h = go r.need r.point h s.low
  where
    go : (n p : ℕ) → 0 < n → (p + 1) * 64 ^ n ≤ 2097152 → p * 64 + 64 ≤ 2097152
    go zero p h l = absurd (not-suc-le-zero h)
    go (suc m) p h l =
        let k : 64 ≤ 64 ^ suc m = rw (pow-suc 64 m) (omega (arith, one-le-pow m 64 (omega arith))) in
        omega (arith, l, mul-le-mul_left (p + 1) k)

pub goes_below : (r : Reading) (b : ℕ) → b < r.lo → wrong ≡ goes_on r b
goes_below r b h = rw (lt-leb r.lo b h)

pub goes_above : (r : Reading) (b : ℕ) → r.lo ≤ b → r.hi < b → wrong ≡ goes_on r b
goes_above r b h g = rw (le-leb r.lo b h, lt-leb b r.hi g)

-- the reading allows b as its next byte
pub record Allows (r : Reading) (b : ℕ) : Type 0 where
  pub least : r.lo ≤ b
  pub most : b ≤ r.hi

pub goes_on_lem : (r : Reading) (b : ℕ) → Small r → 0 < r.need → Allows r b
    → Reads (further (r.need - 1) (r.point * 64 + (b - 0x80))) (goes_on r b)
goes_on_lem r b s h a = (
  rw (le-leb r.lo b a.least, le-leb b r.hi a.most),
  record {
    few = omega (arith, s.few);
    low = go r.need r.point (b - 0x80) h s.low (omega (arith, s.to, a.most));
    from = omega arith;
    to = omega arith;
  },
)
  where
    go : (n p x : ℕ) → 0 < n → (p + 1) * 64 ^ n ≤ 2097152 → x ≤ 63 → (p * 64 + x + 1) * 64 ^ (n - 1) ≤ 2097152
    go zero p x h l k = absurd (not-suc-le-zero h)
    go (suc m) p x h l k = let e : suc m - 1 ≡ m = omega arith in rw e (grown m p x l k)

-- ---- any byte

pub next_wrong : (r : Reading) (b : ℕ) → r.ok ≡ false → wrong ≡ next_byte r b
unfolding next_byte
next_wrong r b h = rw h

pub next_opens : (r : Reading) (b : ℕ) → r.ok ≡ true → r.need ≡ 0 → opens b ≡ next_byte r b
unfolding next_byte
next_opens r b h e = rw (h, eq-eqb r.need 0 e)

pub next_on : (r : Reading) (b : ℕ) → r.ok ≡ true → (r.need ≡ 0 → ⊥) → goes_on r b ≡ next_byte r b
unfolding next_byte
next_on r b h e = rw (h, ne_eqb r.need 0 e)

-- ---- a loop over the bytes

pub reading_next : (r : Reading) (s : List ℕ) (i : ℕ) → i < length s
    → reading_of (next_byte r (get_or s i 0)) (drop (i + 1) s) ≡ reading_of r (drop i s)
unfolding reading_of
reading_next r s i h = rw (add-one, drop-cons s i 0 h)

pub reading_end : (r : Reading) (s : List ℕ) (i : ℕ) → length s ≤ i → reading_of r (drop i s) ≡ r
unfolding reading_of
reading_end r s i h = rw (drop_of_length-le s h)

-- ---- what a reading completes

module _ (r : Reading) where
  pub completes-wrong : r.ok ≡ false → [] ≡ completes r
  completes-wrong h = rw h

  pub completes_more : r.ok ≡ true → (r.need ≡ 0 → ⊥) → [] ≡ completes r
  completes_more h e = rw (h, ne_eqb r.need 0 e)

  pub completes_one : r.ok ≡ true → r.need ≡ 0 → r.point < 0x10000 → r.point ∷ [] ≡ completes r
  unfolding units_of_point
  completes_one h e p = rw (h, eq-eqb r.need 0 e, lt-ltb r.point 0x10000 p)

  pub completes_two : r.ok ≡ true → r.need ≡ 0 → 0x10000 ≤ r.point
      → (0xD800 + (r.point - 0x10000) / 0x400) ∷ (0xDC00 + (r.point - 0x10000) % 0x400) ∷ [] ≡ completes r
  unfolding units_of_point
  completes_two h e p = rw (h, eq-eqb r.need 0 e, le-ltb r.point 0x10000 p)

-- ---- the judge's two ways out

-- bytes are judged by the reading from the first on
pub judged_first : (s : List ℕ) → is_well (reading_of between s) ≡ is_utf8 s
unfolding is_utf8
judged_first s = refl

-- and so by the last one
module _ (r : Reading) (s : List ℕ) (i : ℕ) (h : length s ≤ i) (e : is_well (reading_of r (drop i s)) ≡ is_utf8 s) where
  last : is_well r ≡ is_utf8 s
  last = rw (← reading_end r s i h) e

  pub judged_ok : r.ok ≡ true → eqb r.need 0 ≡ is_utf8 s
  judged_ok t = rw t at last

  pub judged_wrong : r.ok ≡ false → false ≡ is_utf8 s
  judged_wrong t = rw t at last
