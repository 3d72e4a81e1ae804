-- The lines of a file: where one ends, and what stands before its quoted text.
use mathlib.Core.Path.{◌≡◌, refl, ap, sym, ◌∙◌}
use mathlib.Core.Bool.{Bool, true, false}
use mathlib.Core.Logic.{inl, inr}
use mathlib.Core.List.{List, [], ◌∷◌, ◌++◌, map}
use Prim.Native.Nat.{ℕ, suc, ◌+◌, ◌-◌, ◌≤◌, ◌<◌}
use native.Mathlib.Nat.{add-zero, not-suc-le-zero}
use native.Mathlib.Omega.{arith}
use borrow.Author.Tests.{eq-eqb, ne_eqb, eqb-true, eqb-false, le-leb, lt-leb, lt-ltb, le-ltb}
use lib.Dec.{leb, ltb, eqb}
use lib.ListN.{length, get_or, take, drop, length-append, length-drop, drop_of_length-le}
use lib.Seq.{drop-drop, take_all, split_at, get_or-drop, get_or-take, get_or-append-add, length-take-le}
use Rattle.bits.specs.Choice.{pick}
use Rattle.bits.proofs.TestLaws.{all_of, all_fails, below_or}
use Rattle.text.specs.Text.{line_feed}
use Rattle.std.specs.List.{starts_with}
use Rattle.po_lines.specs.Lines.{in_front, lines_of, last_of, is_ended}
use Rattle.po_lines.specs.Kinds.{begins, is_printable, kind_of, line_of, read_lines}
use Rattle.po_lines.specs.Taken.{FirstLow, IsLine, OutsideAt}

-- ---- the last byte

pub last_append : (b : ℕ) (s t : List ℕ) → last_of b (s ++ t) ≡ last_of (last_of b s) t
unfolding last_of
last_append b [] t = refl
last_append b (c ∷ s) t = last_append c s t

last_at : (b c : ℕ) (s : List ℕ) → last_of b (c ∷ s) ≡ get_or (c ∷ s) (length s) 0
unfolding last_of
last_at b c [] = refl
last_at b c (d ∷ s) = last_at c d s

pub ended_some : (s : List ℕ) → 0 < length s → eqb (get_or s (length s - 1) 0) line_feed ≡ is_ended s
ended_some [] h = absurd (not-suc-le-zero h)
ended_some (c ∷ s) h = let e : length (c ∷ s) - 1 ≡ length s = omega arith in rw (e, last_at line_feed c s)

pub ended_none : (s : List ℕ) → length s ≡ 0 → true ≡ is_ended s
unfolding last_of
ended_none [] h = refl
ended_none (c ∷ s) h = absurd (omega arith)

-- ---- the first bytes of a line

-- the bytes of a mark are compared with those of the line, in the order of the call
same_back : (a b : ℕ) → eqb a b ≡ eqb b a
same_back a b = go (eqb a b) refl
  where
    go : (t : Bool) → eqb a b ≡ t → t ≡ eqb b a
    go true e = sym (eq-eqb b a (sym (eqb-true a b e)))
    go false e = sym (ne_eqb b a (λ q. eqb-false a b e (sym q)))

pub begins_as : (mark s : List ℕ) → starts_with eqb s mark ≡ begins mark s
unfolding begins
begins_as [] s = refl
begins_as (m ∷ mark) [] = refl
begins_as (m ∷ mark) (b ∷ s) = rw (same_back m b, ← begins_as mark s) refl

-- ---- the part of a line behind its mark

pub part_behind : (s : List ℕ) (n m from : ℕ) → m ≡ n → from ≡ pick (ltb m (length s)) m (length s)
    → take (length s - from) (drop from s) ≡ drop n s
part_behind s n m from e f =
    take_all (length s - from) (drop from s) (rw length-drop (omega arith))
    ∙ elim (below_or m (length s)) [
      | inl h ↦ let z : from ≡ n = (f ∙ rw (lt-ltb m (length s) h)) ∙ e in rw z
      | inr h ↦
          let z : from ≡ length s = f ∙ rw (le-ltb m (length s) h) in
          rw (drop_of_length-le s {i = from} (omega arith), drop_of_length-le s {i = n} (omega arith))
    ]

-- ---- where a line ends

-- bytes without a line feed, and one behind them
pub line_cut : (t rest : List ℕ) → ((j : ℕ) → j < length t → 32 ≤ get_or t j 0)
    → lines_of (t ++ (line_feed ∷ rest)) ≡ t ∷ lines_of rest
unfolding lines_of
line_cut [] rest n = refl
line_cut (b ∷ t) rest n =
    rw (ne_eqb b line_feed (λ e. omega (arith, n 0 (omega arith))), line_cut t rest (λ j k. n (suc j) (omega arith)))

-- such bytes, and another byte behind them, are in one line
line_through : (t : List ℕ) (b : ℕ) (rest : List ℕ) → ((j : ℕ) → j < length t → 32 ≤ get_or t j 0)
    → (b ≡ line_feed → ⊥)
    → (l : List ℕ) × (ls : List (List ℕ)) × (lines_of (t ++ (b ∷ rest)) ≡ (t ++ (b ∷ l)) ∷ ls)
unfolding lines_of
line_through [] b rest n r = rw (ne_eqb b line_feed r) (go (lines_of rest))
  where
    go : (ms : List (List ℕ)) → (l : List ℕ) × (ls : List (List ℕ)) × (in_front b ms ≡ (b ∷ l) ∷ ls)
    go [] = ([], [], refl)
    go (m ∷ ms) = (m, ms, refl)
line_through (c ∷ t) b rest n r =
    let g = line_through t b rest (λ j k. n (suc j) (omega arith)) r in
    (g.0, g.1, rw (ne_eqb c line_feed (λ e. omega (arith, n 0 (omega arith))), g.2))

module _ (s : List ℕ) (at end : ℕ) (f : FirstLow s at end) where
  abbrev line : List ℕ
  line = take (end - at) (drop at s)

  line-length : length line ≡ end - at
  line-length = length-take-le (end - at) (drop at s) (rw length-drop (omega (arith, f.from, f.within)))

  line_plain : (j : ℕ) → j < length line → 32 ≤ get_or line j 0
  line_plain j k =
      let b : j < end - at = omega (arith, line-length) in
      rw (get_or-take (end - at) (drop at s) j 0 b, get_or-drop at s j 0) (f.none (at + j) (omega arith) (omega (arith, f.from)))

  line_printable : is_printable line ≡ true
  unfolding is_printable
  line_printable = all_of (λ i. leb 32 (get_or line i 0)) (length line) (λ i k. le-leb 32 (get_or line i 0) (line_plain i k))

  -- the bytes from `at` on: the line, the byte at its end, and the rest
  cut : end < length s → drop at s ≡ line ++ (get_or s end 0 ∷ drop (end + 1) s)
  cut h =
      let z : at + (end - at) ≡ end = omega (arith, f.from) in
      let y : at + suc (end - at) ≡ end + 1 = omega (arith, f.from) in
      let g : get_or (drop at s) (end - at) 0 ≡ get_or s end 0 = get_or-drop at s (end - at) 0 ∙ rw z in
      let r : drop (suc (end - at)) (drop at s) ≡ drop (end + 1) s = drop-drop (suc (end - at)) at s ∙ rw y in
      split_at (drop at s) (end - at) 0 (rw length-drop (omega (arith, f.from))) ∙ rw (g, r)

  pub line_found : end < length s → get_or s end 0 ≡ line_feed → IsLine s at end
  line_found h e =
      record {
        from = f.from;
        within = h;
        plain = line_printable;
        first = ap lines_of (cut h ∙ rw e) ∙ line_cut line (drop (end + 1) s) line_plain;
      }

  -- no byte below 32 follows: the last line has no line feed
  pub line_open : at < length s → length s ≤ end → OutsideAt s at
  line_open k h =
      let b = f.none (length s - 1) (omega arith) (omega (arith, f.within)) in
      inl (sym (ended_some s (omega arith)) ∙ ne_eqb (get_or s (length s - 1) 0) line_feed (λ e. omega arith))

  -- the first one is no line feed: it is a raw byte in the line
  pub line_raw : end < length s → (get_or s end 0 ≡ line_feed → ⊥) → OutsideAt s at
  unfolding read_lines line_of kind_of is_printable
  line_raw h n =
      let g = line_through line (get_or s end 0) (drop (end + 1) s) line_plain n in
      let l : List ℕ = line ++ (get_or s end 0 ∷ g.0) in
      let low : get_or l (length line) 0 ≡ get_or s end 0 = rw add-zero at (get_or-append-add line (get_or s end 0 ∷ g.0) 0 0) in
      let raw : is_printable l ≡ false
      = all_fails (λ i. leb 32 (get_or l i 0)) (length l) (length line)
      (omega (arith, length-append line (get_or s end 0 ∷ g.0))) (rw low (lt-leb 32 (get_or s end 0) (f.low h))) in
      inr (line_of l, map line_of g.1, ap (λ (t : List ℕ). map line_of (lines_of t)) (cut h) ∙ ap (map line_of) g.2, rw raw)
