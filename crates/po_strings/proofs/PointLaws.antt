-- The first code point of some units: a unit that is no surrogate, two surrogates, or one that stands alone.
use mathlib.Core.Path.{◌≡◌, refl, ap, sym, ◌∙◌}
use mathlib.Core.Bool.{Bool, true, false}
use mathlib.Core.Logic.{◌⊎◌, inl, inr}
use mathlib.Core.List.{List, [], ◌∷◌, ◌++◌}
use Prim.Native.Nat.{ℕ, ◌+◌, ◌≤◌, ◌<◌}
use native.Mathlib.Omega.{arith}
use borrow.Author.Tests.{eq-eqb, ne_eqb, ltb-true, lt-ltb, le-ltb, le-leb, lt-leb}
use lib.Dec.{ltb, eqb}
use lib.ListN.{length, length-append}
use lib.Seq.{sets}
use Rattle.bits.specs.Choice.{both}
use Rattle.bits.proofs.TestLaws.{both_0, both_1, below_or}
use Rattle.bits.proofs.WriteLaws.{sets_append}
use Rattle.text.specs.Text.{Wrote}
use Rattle.utf.specs.Utf16.{bytes_of_point, is_high, is_low, point_of, is_utf16_from, is_utf16, utf8_of_from, utf8_of}
use Rattle.po_text.specs.Written.{can_write, writable, escaped}
use Rattle.po_text.proofs.EscapeLaws.{escaped_append}
use Rattle.po_strings.specs.declared.Text.{Text}
use Rattle.po_strings.specs.Texts.{is_held, units_left, no_point, FirstPoint}
use Rattle.po_strings.proofs.UnitLaws.{left_end}

-- ---- which units are surrogates

no_high : (u : ℕ) → (u < 0xD800) ⊎ (0xDC00 ≤ u) → is_high u ≡ false
no_high u (inl h) = rw (lt-leb 0xD800 u h)
no_high u (inr h) = rw (le-leb 0xD800 u (omega arith), le-ltb u 0xDC00 h)

no_low : (u : ℕ) → (u < 0xDC00) ⊎ (0xE000 ≤ u) → is_low u ≡ false
no_low u (inl h) = rw (lt-leb 0xDC00 u h)
no_low u (inr h) = rw (le-leb 0xDC00 u (omega arith), le-ltb u 0xE000 h)

is-high : (u : ℕ) → 0xD800 ≤ u → u < 0xDC00 → is_high u ≡ true
is-high u h g = rw (le-leb 0xD800 u h, lt-ltb u 0xDC00 g)

is-low : (u : ℕ) → 0xDC00 ≤ u → u < 0xE000 → is_low u ≡ true
is-low u h g = rw (le-leb 0xDC00 u h, lt-ltb u 0xE000 g)

can : (u : ℕ) → 32 ≤ u → can_write u ≡ true
can u h = rw (le-leb 32 u h)

-- ---- each way

module _ (u : ℕ) (us : List ℕ) where
  plain_point : is_high u ≡ false → is_low u ≡ false → u < no_point → FirstPoint (u ∷ us) us u
  unfolding is_utf16_from utf8_of_from writable
  plain_point h l k =
      record { valid = rw (h, l, lt-ltb u no_point k); bytes = λ e. rw h; written = refl }

  pub below_point : u < 0xD800 → FirstPoint (u ∷ us) us u
  below_point h = plain_point (no_high u (inl h)) (no_low u (inl (omega arith))) (omega arith)

  pub above_point : 0xE000 ≤ u → u < 0x10000 → FirstPoint (u ∷ us) us u
  above_point h g = plain_point (no_high u (inr (omega arith))) (no_low u (inr h)) (omega arith)

  pub low_alone : 0xDC00 ≤ u → u < 0xE000 → FirstPoint (u ∷ us) us no_point
  unfolding is_utf16_from writable
  low_alone h g =
      record {
        valid = rw (no_high u (inr h), is-low u h g);
        bytes = λ e. absurd (omega arith);
        written = rw (can u (omega arith));
      }

  module _ (h : 0xD800 ≤ u) (g : u < 0xDC00) where
    pub high_last : us ≡ [] → FirstPoint (u ∷ us) us no_point
    unfolding is_utf16_from writable
    high_last e =
        record { valid = rw (e, is-high u h g); bytes = λ e. absurd (omega arith); written = rw (can u (omega arith)) }

    module _ (v : ℕ) (left : List ℕ) (e : us ≡ v ∷ left) where
      pub high_alone : (v < 0xDC00) ⊎ (0xE000 ≤ v) → FirstPoint (u ∷ us) us no_point
      unfolding is_utf16_from writable
      high_alone k =
          record {
            valid = rw (e, is-high u h g, no_low v k);
            bytes = λ e. absurd (omega arith);
            written = rw (can u (omega arith));
          }

      pub pair_point : 0xDC00 ≤ v → v < 0xE000 → FirstPoint (u ∷ us) left (point_of u v)
      unfolding is_utf16_from utf8_of_from writable
      pair_point k l =
          record {
            valid = rw (e, is-high u h g, is-low v k l, lt-ltb (point_of u v) no_point (omega arith));
            bytes = λ z. rw (e, is-high u h g);
            written = rw (e, can u (omega arith), can v (omega arith), can (point_of u v) (omega arith));
          }

-- ---- no code point: at the end, or where a surrogate stands alone

pub none_valid : (us left : List ℕ) → FirstPoint us left no_point → is_utf16 us ≡ false
none_valid us left f = rw (le-ltb no_point no_point (omega arith)) at f.valid

module _ (s : List ℕ) (t : Text) (i : ℕ) (none : (t.count ≤ i) ⊎ (is_utf16 (units_left s t i) ≡ false)) where
  pub valid_end : is_utf16 (units_left s t i) ≡ true → units_left s t i ≡ []
  valid_end v = go none
    where
      go : (t.count ≤ i) ⊎ (is_utf16 (units_left s t i) ≡ false) → units_left s t i ≡ []
      go (inl h) = left_end s t i h
      go (inr h) = absurd (let z : ◌≡◌ {A = Bool} false true = sym h ∙ v in let y : ◌≡◌ {A = ℕ} 0 1 = cc in omega arith)

-- ---- a turn of the loops over code points; c is the first one of `us`, and `left` is behind it

module _ (us left : List ℕ) (c : ℕ) (f : FirstPoint us left c) where
  -- judged: units that are left are as good as all, as long as each code point is
  held_parts : both (is_utf16 us) (writable us) ≡ both (both (ltb c no_point) (can_write c)) (both (is_utf16 left) (writable left))
  held_parts = rw (f.valid, f.written) (go (ltb c no_point) (is_utf16 left) (can_write c) (writable left))
    where
      go : (p q r s : Bool) → both (both p q) (both r s) ≡ both (both p r) (both q s)
      go true true r s = refl
      go true false true s = refl
      go true false false s = refl
      go false q r s = refl

  module _ (t z : Bool) (e : t ≡ both (ltb c no_point) (can_write c)) (h : both (is_utf16 us) (writable us) ≡ z) where
    pub held_turn : t ≡ true → both (is_utf16 left) (writable left) ≡ z
    held_turn g = rw (held_parts, ← e, g) at h

    pub held_stop : t ≡ false → false ≡ z
    held_stop g = rw (held_parts, ← e, g) at h

  module _ (v : is_utf16 us ≡ true) where
    parts : both (ltb c no_point) (is_utf16 left) ≡ true
    parts = rw f.valid at v

    -- written: there is a code point
    pub point_there : c < no_point
    point_there = ltb-true c no_point (both_0 (ltb c no_point) (is_utf16 left) parts)

    pub left_valid : is_utf16 left ≡ true
    left_valid = both_1 (ltb c no_point) (is_utf16 left) parts

    escaped_parts : escaped (utf8_of us) ≡ escaped (bytes_of_point c) ++ escaped (utf8_of left)
    escaped_parts = ap escaped (f.bytes point_there) ∙ escaped_append (bytes_of_point c) (utf8_of left)

    pub length_parts : length (escaped (utf8_of us)) ≡ length (escaped (bytes_of_point c)) + length (escaped (utf8_of left))
    length_parts = ap length escaped_parts ∙ length-append (escaped (bytes_of_point c)) (escaped (utf8_of left))

    pub put_turn : (out out' end : List ℕ) (to to' : ℕ) → Wrote out to (escaped (bytes_of_point c)) to' out'
        → sets out to (escaped (utf8_of us)) ≡ end → sets out' to' (escaped (utf8_of left)) ≡ end
    put_turn out out' end to to' w g =
        rw (w.0, w.1)
        (sym (sets_append (escaped (bytes_of_point c)) (escaped (utf8_of left)) out to)
        ∙ ap (λ (l : List ℕ). sets out to l) (sym escaped_parts) ∙ g)

-- ---- the ends

pub held_some : (us : List ℕ) → 0 < length us → both (is_utf16 us) (writable us) ≡ is_held us
unfolding is_held
held_some [] h = absurd (omega arith)
held_some (u ∷ us) h = refl

pub held_valid : (us : List ℕ) → is_held us ≡ true → (is_utf16 us ≡ true) × (writable us ≡ true) × (0 < length us)
unfolding is_held
held_valid [] h = absurd (let z : ◌≡◌ {A = ℕ} 0 1 = cc in omega arith)
held_valid (u ∷ us) h =
    (both_0 (is_utf16 (u ∷ us)) (writable (u ∷ us)) h, both_1 (is_utf16 (u ∷ us)) (writable (u ∷ us)) h, omega arith)

pub held_none : (us : List ℕ) → us ≡ [] → false ≡ is_held us
unfolding is_held
held_none us e = rw e

pub held_end : (us : List ℕ) (z : Bool) → us ≡ [] → both (is_utf16 us) (writable us) ≡ z → true ≡ z
unfolding is_utf16_from writable
held_end us z e h = rw e at h

pub escaped_end : (us : List ℕ) → us ≡ [] → escaped (utf8_of us) ≡ []
unfolding utf8_of_from escaped
escaped_end us e = rw e

-- where no code point follows, a text is judged by whether it ends there
pub judged_end : (s : List ℕ) (t : Text) (i : ℕ) (z : Bool) → (t.count ≤ i) ⊎ (is_utf16 (units_left s t i) ≡ false)
    → i ≤ t.count → both (is_utf16 (units_left s t i)) (writable (units_left s t i)) ≡ z → eqb i t.count ≡ z
judged_end s t i z none b e = go none
  where
    at_end : t.count ≤ i → eqb i t.count ≡ z
    at_end h = eq-eqb i t.count (omega arith) ∙ held_end (units_left s t i) z (left_end s t i h) e

    go : (t.count ≤ i) ⊎ (is_utf16 (units_left s t i) ≡ false) → eqb i t.count ≡ z
    go (inl h) = at_end h
    go (inr h) =
        elim (below_or i t.count) [
          | inl l ↦ ne_eqb i t.count (λ k. omega arith) ∙ (rw h at e)
          | inr g ↦ at_end g
        ]
