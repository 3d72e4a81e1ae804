-- UTF-8 in pieces: well-formed pieces one behind the other, and ASCII between them.
use mathlib.Core.Path.{◌≡◌, refl, ap, sym, ◌∙◌}
use mathlib.Core.Bool.{Bool, true, false}
use mathlib.Core.Logic.{inl, inr}
use mathlib.Core.List.{List, [], ◌∷◌, ◌++◌}
use Prim.Native.Nat.{ℕ, ◌+◌, ◌≤◌, ◌<◌}
use native.Mathlib.Omega.{arith}
use borrow.Author.Tests.{ltb-true, eqb-true, eqb-false}
use lib.Dec.{ltb, leb, eqb}
use lib.ListN.{length, get_or, drop}
use Rattle.bits.specs.Choice.{pick, both}
use Rattle.bits.proofs.TestLaws.{both_0, both_1, which}
use Rattle.utf.specs.declared.Reading.{Reading}
use Rattle.utf.specs.Utf8.{wrong, opens, next_byte, reading_of, is_well, GoesOn, Skipped}
use Rattle.utf.proofs.ReadingLaws.{pick_from, opens-ascii, goes_below, next_wrong, next_opens, next_on, reading_next}

-- well-formed from a reading on
abbrev pub utf8_from : Reading → List ℕ → Bool
utf8_from r bs = is_well (reading_of r bs)

-- no code point is begun
abbrev pub Rests : Reading → Type 0
Rests r = (r.ok ≡ true) × (r.need ≡ 0)

-- ---- what was read before does not count where no code point is begun

pub reading_append : (r : Reading) (a b : List ℕ) → reading_of r (a ++ b) ≡ reading_of (reading_of r a) b
unfolding reading_of
reading_append r [] b = refl
reading_append r (x ∷ a) b = reading_append (next_byte r x) a b

pub next_rested : (r : Reading) (b : ℕ) → Rests r → next_byte r b ≡ opens b
next_rested r b h = sym (next_opens r b h.0 h.1)

pub rested_same : (r q : Reading) (bs : List ℕ) → Rests r → Rests q → utf8_from r bs ≡ utf8_from q bs
unfolding reading_of
rested_same r q [] h g = rw (h.0, h.1, g.0, g.1)
rested_same r q (b ∷ bs) h g = ap (λ (p : Reading). utf8_from p bs) (next_rested r b h ∙ sym (next_rested q b g))

pub rests_of : (r : Reading) (bs : List ℕ) → utf8_from r bs ≡ true → Rests (reading_of r bs)
rests_of r bs h =
    let q : Reading = reading_of r bs in
    (both_0 q.ok (eqb q.need 0) h, eqb-true q.need 0 (both_1 q.ok (eqb q.need 0) h))

-- a well-formed piece in front changes nothing
pub utf8_behind : (r : Reading) (a b : List ℕ) → Rests r → utf8_from r a ≡ true → utf8_from r (a ++ b) ≡ utf8_from r b
utf8_behind r a b h u = rw (reading_append r a b) (rested_same (reading_of r a) r b (rests_of r a u) h)

-- ---- ASCII

abbrev pub Ascii : List ℕ → Type 0
Ascii [] = Unit {0}
Ascii (b ∷ bs) = (b < 0x80) × Ascii bs

-- a test that computes, for bytes that are given
abbrev pub is_ascii : List ℕ → Bool
is_ascii [] = true
is_ascii (b ∷ bs) = both (ltb b 0x80) (is_ascii bs)

pub ascii-given : (s : List ℕ) → is_ascii s ≡ true → Ascii s
ascii-given [] h = tt
ascii-given (b ∷ s) h =
    (ltb-true b 0x80 (both_0 (ltb b 0x80) (is_ascii s) h), ascii-given s (both_1 (ltb b 0x80) (is_ascii s) h))

pub ascii_rests : (r : Reading) (b : ℕ) → b < 0x80 → Rests r → Rests (next_byte r b)
ascii_rests r b k h = rw (next_rested r b h, ← (opens-ascii b k).0) (refl, refl)

-- nor does ASCII in front
pub ascii_behind : (r : Reading) (a b : List ℕ) → Rests r → Ascii a → utf8_from r (a ++ b) ≡ utf8_from r b
unfolding reading_of
ascii_behind r [] b h k = refl
ascii_behind r (x ∷ a) b h k =
    let n : Rests (next_byte r x) = ascii_rests r x k.0 h in
    ascii_behind (next_byte r x) a b n k.1 ∙ rested_same (next_byte r x) r b n h

-- ---- a wrong byte stays wrong

wrong_stays : (bs : List ℕ) → reading_of wrong bs ≡ wrong
unfolding reading_of
wrong_stays [] = refl
wrong_stays (b ∷ bs) = rw (← next_wrong wrong b refl) (wrong_stays bs)

pub never_wrong : (bs : List ℕ) → utf8_from wrong bs ≡ true → ⊥
never_wrong bs h = let e : false ≡ true = rw (wrong_stays bs) at h in let z : ◌≡◌ {A = ℕ} 0 1 = cc in omega arith

-- an ASCII byte stands only where no code point is begun
pub rested_before : (r : Reading) (b : ℕ) (bs : List ℕ) → 0x80 ≤ r.lo → b < 0x80 → utf8_from r (b ∷ bs) ≡ true → Rests r
unfolding reading_of
rested_before r b bs l k h =
    elim (which r.ok) [
      | inr f ↦ absurd (never_wrong bs (rw (next_wrong r b f) h))
      | inl t ↦ elim (which (eqb r.need 0)) [
        | inl e ↦ (t, eqb-true r.need 0 e)
        | inr n ↦ absurd (never_wrong bs (rw (goes_below r b (omega arith), next_on r b t (eqb-false r.need 0 n)) h))
      ]
    ]

-- ---- no reading allows an ASCII byte within a code point

pick_low : (t : Bool) (p q : Reading) → 0x80 ≤ p.lo → 0x80 ≤ q.lo → 0x80 ≤ (pick t p q).lo
pick_low true p q h g = h
pick_low false p q h g = g

opens-low : (b : ℕ) → 0x80 ≤ (opens b).lo
unfolding opens
opens-low b =
    pick_low (ltb b 0x80) _ _ (omega arith)
    (pick_low (ltb b 0xC2) _ _ (omega arith)
    (pick_low (ltb b 0xE0) _ _ (omega arith)
    (pick_low (ltb b 0xF0) _ _ (pick_from (eqb b 0xE0) 0xA0 0x80 0x80 (omega arith) (omega arith))
    (pick_low (ltb b 0xF5) _ _ (pick_from (eqb b 0xF0) 0x90 0x80 0x80 (omega arith) (omega arith)) (omega arith)))))

pub next_low : (r : Reading) (b : ℕ) → 0x80 ≤ (next_byte r b).lo
unfolding next_byte
next_low r b =
    pick_low r.ok _ _
    (pick_low (eqb r.need 0) _ _ (opens-low b) (pick_low (both (leb r.lo b) (leb b r.hi)) _ _ (omega arith) (omega arith)))
    (omega arith)

-- ---- ASCII bytes between two code points are passed over

pub skip_none : (s : List ℕ) (from : ℕ) → from ≤ length s → Skipped s from from
skip_none s from h = record { onward = omega arith; within = h; same = λ r ok rest. refl }

pub skip_next : (s : List ℕ) (from i : ℕ) → Skipped s from i → i < length s → get_or s i 0 < 0x80 → Skipped s from (i + 1)
skip_next s from i g h k =
    record {
      onward = omega (arith, g.onward);
      within = omega arith;
      same = λ r ok rest.
          rested_same r (next_byte r (get_or s i 0)) (drop (i + 1) s) (ok, rest) (ascii_rests r (get_or s i 0) k (ok, rest))
          ∙ ap is_well (reading_next r s i h) ∙ g.same r ok rest;
    }

pub goes_still : (s : List ℕ) (from : ℕ) (r : Reading) → from ≤ length s → GoesOn s from r from
goes_still s from r h = record { onward = omega arith; within = h; same = refl }

pub goes_skipped : (s : List ℕ) (from end : ℕ) (r : Reading) → r.ok ≡ true → r.need ≡ 0 → Skipped s from end
    → GoesOn s from r end
goes_skipped s from end r ok rest g = record { onward = g.onward; within = g.within; same = g.same r ok rest }
