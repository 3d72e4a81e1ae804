-- Values in lent room: one more, and more bytes of the last one.
use mathlib.Core.Path.{◌≡◌, refl, ap, sym, ◌∙◌}
use mathlib.Core.Logic.{inl, inr}
use mathlib.Core.List.{List, [], ◌∷◌, ◌++◌}
use Prim.Native.Nat.{ℕ, zero, suc, ◌+◌, ◌-◌, ◌≤◌, ◌<◌}
use native.Mathlib.Nat.{add-zero, zero-add, add-suc, suc-add, not-suc-le-zero}
use native.Mathlib.Omega.{arith}
use lib.ListN.{length, get_or, set, length-append, length-set, get_or-append}
use lib.Seq.{sets, length-sets, get_or-append-add, get_or-set_same, get_or-set_other}
use Rattle.bits.specs.Bytes.{bytes_at}
use Rattle.bits.proofs.TestLaws.{below, below_or}
use Rattle.bits.proofs.WriteLaws.{bytes_at_off, bytes_at_back}
use Rattle.string_edits.specs.Lists.{start_in, value_in, Within}
use Rattle.po_pairs.specs.Held.{Held, last_joined}

-- m and n bytes, one behind the other
bytes_at-split : (s : List ℕ) (m n p : ℕ) → bytes_at s p (m + n) ≡ bytes_at s p m ++ bytes_at s (p + m) n
unfolding bytes_at
bytes_at-split s zero n p = rw (zero-add n, add-zero p)
bytes_at-split s (suc m) n p = rw (suc-add m n, add-suc p m, ← suc-add p m, bytes_at-split s m n (suc p))

no_bytes : (s : List ℕ) (p : ℕ) (t : List ℕ) → bytes_at s p 0 ++ t ≡ t
unfolding bytes_at
no_bytes s p t = refl

value-at : (text ends : List ℕ) (j : ℕ) → bytes_at text (start_in ends j) (start_in ends (suc j) - start_in ends j) ≡ value_in text
    ends j
unfolding value_in
value-at text ends j = refl

-- ---- the last value

pub last_length : (vs : List (List ℕ)) (t : List ℕ) → length (last_joined vs t) ≡ length vs
last_length [] t = refl
last_length (v ∷ []) t = refl
last_length (v ∷ w ∷ vs) t = ap suc (last_length (w ∷ vs) t)

last_before : (vs : List (List ℕ)) (t : List ℕ) (j : ℕ) → suc j < length vs → get_or (last_joined vs t) j [] ≡ get_or vs j []
last_before [] t j h = absurd (not-suc-le-zero h)
last_before (v ∷ []) t j h = absurd (omega arith)
last_before (v ∷ w ∷ vs) t zero h = refl
last_before (v ∷ w ∷ vs) t (suc j) h = last_before (w ∷ vs) t j (omega arith)

last_at : (vs : List (List ℕ)) (t : List ℕ) (j : ℕ) → suc j ≡ length vs → get_or (last_joined vs t) j [] ≡ get_or vs j [] ++ t
last_at [] t j h = absurd (omega arith)
last_at (v ∷ []) t zero h = refl
last_at (v ∷ []) t (suc j) h = absurd (omega arith)
last_at (v ∷ w ∷ vs) t zero h = absurd (omega arith)
last_at (v ∷ w ∷ vs) t (suc j) h = last_at (w ∷ vs) t j (omega arith)

-- ---- where values start

-- each value starts where the one before ends, so none starts past the end of the last
starts_rise : (text ends : List ℕ) (n i : ℕ) → ((j : ℕ) → j < n → Within text ends j) → i ≤ n
    → start_in ends i ≤ start_in ends n
starts_rise text ends zero i w h = let e : i ≡ zero = omega arith in rw e (omega arith)
starts_rise text ends (suc n) i w h =
    elim (below_or i (suc n)) [
      | inl l ↦ omega (arith, starts_rise text ends n i (λ j k. w j (omega arith)) (omega arith), (w n (omega arith)).rising)
      | inr l ↦ let e : i ≡ suc n = omega arith in rw e (omega arith)
    ]

-- a new end at m leaves the starts up to there
module _ (ends : List ℕ) (m e : ℕ) where
  start_kept : (i : ℕ) → i ≤ m → start_in (set ends m e) i ≡ start_in ends i
  unfolding start_in
  start_kept zero h = refl
  start_kept (suc i) h = get_or-set_other ends m i e 0 (λ q. omega arith)

  pub start_new : m < length ends → start_in (set ends m e) (suc m) ≡ e
  unfolding start_in
  start_new h = get_or-set_same ends m e 0 h

-- ---- bytes t stored at `to`, where value m ends then

module _ (text ends t : List ℕ) (m to : ℕ) (room : to + length t ≤ length text) (known : m < length ends) where
  abbrev pub text' : List ℕ
  text' = sets text to t

  abbrev pub ends' : List ℕ
  ends' = set ends m (to + length t)

  -- a value before it
  module _ (j : ℕ) (h : j < m) (w : Within text ends j) (below : start_in ends (suc j) ≤ to) where
    within_kept : Within text' ends' j
    within_kept =
        record {
          known = rw length-set w.known;
          rising = rw (start_kept ends m (to + length t) j (omega arith), start_kept ends m (to + length t) (suc j) h) w.rising;
          end = rw (start_kept ends m (to + length t) (suc j) h, length-sets text to t) w.end;
        }

    value_kept : value_in text' ends' j ≡ value_in text ends j
    unfolding value_in
    value_kept =
        rw (start_kept ends m (to + length t) j (omega arith), start_kept ends m (to + length t) (suc j) h)
        (bytes_at_off t text to (start_in ends j) (start_in ends (suc j) - start_in ends j) (λ k. absurd (omega (arith, w.rising))))

  -- that value
  module _ (from : start_in ends m ≤ to) where
    within_new : Within text' ends' m
    within_new =
        record {
          known = rw length-set known;
          rising = rw (start_kept ends m (to + length t) m (omega arith), start_new ends m (to + length t) known) (omega arith);
          end = rw (start_new ends m (to + length t) known, length-sets text to t) room;
        }

    -- what stood there before, and the new bytes
    value_new : value_in text' ends' m ≡ bytes_at text (start_in ends m) (to - start_in ends m) ++ t
    unfolding value_in
    value_new =
        let a = start_in ends m in
        let n : to + length t - a ≡ (to - a) + length t = omega arith in
        let p : a + (to - a) ≡ to = omega arith in
        rw (start_kept ends m (to + length t) m (omega arith), start_new ends m (to + length t) known, n)
        (bytes_at-split text' (to - a) (length t) a
        ∙ rw (p, bytes_at_back t text to room, bytes_at_off t text to a (to - a) (λ k. absurd (omega arith))))

module _ (text ends t : List ℕ) (vs : List (List ℕ)) (g : Held text ends vs) (to : ℕ) (room : to + length t ≤ length text) where
  -- a value that a line opens
  pub held_open : length vs < length ends → to ≡ start_in ends (length vs)
      → Held (sets text to t) (set ends (length vs) (to + length t)) (vs ++ (t ∷ []))
  held_open known e =
      let m = length vs in
      let l : length (vs ++ (t ∷ [])) ≡ m + 1 = length-append vs (t ∷ []) in
      let low : (j : ℕ) → j < m → start_in ends (suc j) ≤ to = λ j h. rw e (starts_rise text ends m (suc j) g.within h) in
      record {
        many = rw length-set (omega arith);
        within = λ j h. elim (below j m (omega arith)) [
          | inl q ↦ rw q (within_new text ends t m to room known (omega arith))
          | inr q ↦ within_kept text ends t m to room known j q (g.within j q) (low j q)
        ];
        value = λ j h. elim (below j m (omega arith)) [
          | inl q ↦
              let z : to - start_in ends m ≡ 0 = omega arith in
              rw q (rw z at (value_new text ends t m to room known (omega arith))
              ∙ no_bytes text (start_in ends m) t ∙ sym (rw add-zero at (get_or-append-add vs (t ∷ []) 0 [])))
          | inr q ↦ value_kept text ends t m to room known j q (g.within j q) (low j q)
              ∙ g.value j q ∙ sym (get_or-append vs (t ∷ []) [] j q)
        ];
      }

  -- the last value, that a line continues
  pub held_more : (m : ℕ) → length vs ≡ suc m → to ≡ start_in ends (suc m)
      → Held (sets text to t) (set ends m (to + length t)) (last_joined vs t)
  held_more m c e =
      let l : length (last_joined vs t) ≡ suc m = last_length vs t ∙ c in
      let known : m < length ends = omega (arith, g.many) in
      let low : (j : ℕ) → j < m → start_in ends (suc j) ≤ to
      = λ j h. rw e (starts_rise text ends (suc m) (suc j) (λ i k. g.within i (omega arith)) (omega arith)) in
      let last : start_in ends m ≤ to = rw e (g.within m (omega arith)).rising in
      let v : bytes_at text (start_in ends m) (to - start_in ends m) ≡ get_or vs m [] = rw e
      (value-at text ends m ∙ g.value m (omega arith)) in
      record {
        many = rw length-set (omega (arith, g.many));
        within = λ j h. elim (below j m (omega arith)) [
          | inl q ↦ rw q (within_new text ends t m to room known last)
          | inr q ↦ within_kept text ends t m to room known j q (g.within j (omega arith)) (low j q)
        ];
        value = λ j h. elim (below j m (omega arith)) [
          | inl q ↦
              rw q (value_new text ends t m to room known last ∙ ap (λ (x : List ℕ). x ++ t) v ∙ sym (last_at vs t m (sym c)))
          | inr q ↦ value_kept text ends t m to room known j q (g.within j (omega arith)) (low j q)
              ∙ g.value j (omega arith) ∙ sym (last_before vs t j (omega arith))
        ];
      }

pub held_none : (text ends : List ℕ) → Held text ends []
held_none text ends = record { many = omega arith; within = λ j h. absurd (not-suc-le-zero h); value = λ j h. absurd (not-suc-le-zero h) }
