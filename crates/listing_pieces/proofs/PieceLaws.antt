-- The pieces of a listing, in order, are the listing; they are no more than its bytes and 3.
use Rattle.std.specs.Prelude.{Option}
use mathlib.Core.Path.{◌≡◌, refl, ap, sym, ◌∙◌, subst}
use mathlib.Core.Bool.{true, false}
use mathlib.Core.Logic.{◌⊎◌, inl, inr}
use mathlib.Core.List.{List, [], ◌∷◌, ◌++◌, append_assoc, append-nil}
use Prim.Native.Nat.{ℕ, zero, suc, ◌+◌, ◌-◌, ◌≤◌, ◌<◌}
use native.Mathlib.Omega.{arith}
use borrow.Author.Tests.{lt-ltb, le-ltb}
use lib.ListN.{length, take, drop, get_or, length-append, drop_of_length-le}
use lib.Seq.{drop-cons, drop-drop}
use Rattle.bits.proofs.TestLaws.{below_or}
use Rattle.format.specs.declared.Layout.{Layout}
use Rattle.image.specs.Sections.{functions_in, strings_in}
use Rattle.image.specs.Strings.{string_of}
use Rattle.image.specs.Kinds.{is_identifier}
use Rattle.text.specs.Text.{hex4, hexes, spaced}
use Rattle.text.proofs.TextLaws.{spaced_snoc}
use Rattle.listing_lines.specs.Lines.{string_words, string_line, function_line, units_word, slot_word, closing}
use Rattle.listing_lines.proofs.UnitLaws.{length-hexes}
use Rattle.listing_pieces.specs.Listing.{lines_from, slot_of, string_line_in, function_line_in, listed}
use Rattle.listing_pieces.specs.Pieces.{Spot, counts, strings, units, functions, end, units_in, chunk, string_start}
use Rattle.listing_pieces.specs.Pieces.{strings_left, left, piece_at, next_of, pieces, is_end, after, phase, steps}

-- ---- lines and units

lines_next : (f : ℕ → List ℕ) (i n : ℕ) → i < n → lines_from f i (n - i) ≡ f i ++ lines_from f (i + 1) (n - (i + 1))
unfolding lines_from
lines_next f i n h = let e : n - i ≡ suc (n - (i + 1)) = omega arith in rw e

lines_end : (f : ℕ → List ℕ) (i n : ℕ) → n ≤ i → lines_from f i (n - i) ≡ []
unfolding lines_from
lines_end f i n h = let e : n - i ≡ 0 = omega arith in rw e

hexes-split : (n : ℕ) (us : List ℕ) → hexes us ≡ hexes (take n us) ++ hexes (drop n us)
unfolding hexes
hexes-split zero us = refl
hexes-split (suc n) [] = refl
hexes-split (suc n) (u ∷ us) =
    ap (λ (z : List ℕ). hex4 u ++ z) (hexes-split n us) ∙ sym (append_assoc (hex4 u) (hexes (take n us)) (hexes (drop n us)))

no_hexes : (a b : List ℕ) → (hexes [] ++ a) ++ b ≡ a ++ b
unfolding hexes
no_hexes a b = refl

-- the last two words of a string's line and its line feed
line_closes : (us : List ℕ) (slot : Option ℕ)
    → (units_word us ++ (32 ∷ [])) ++ (slot_word slot ++ (10 ∷ [])) ≡ hexes us ++ closing (length us) slot
unfolding hexes
line_closes [] slot = refl
line_closes (u ∷ us) slot = append_assoc (hexes (u ∷ us)) (32 ∷ []) (slot_word slot ++ (10 ∷ []))

regroup : (a b c d : List ℕ) → ((a ++ b) ++ c) ++ d ≡ a ++ (b ++ (c ++ d))
regroup a b c d = append_assoc (a ++ b) c d ∙ append_assoc a b (c ++ d)

regroup' : (a b c d : List ℕ) → ((a ++ b) ++ c) ++ d ≡ a ++ ((b ++ c) ++ d)
regroup' a b c d = regroup a b c d ∙ ap (λ (z : List ℕ). a ++ z) (sym (append_assoc b c d))

module _ (l : Layout) (s : List ℕ) where
  line-is : (i : ℕ)
      → string_line_in l s i ≡ string_start l s i ++ (hexes (units_in l s i) ++ closing (length (units_in l s i)) (slot_of l s i))
  unfolding string_line_in string_line string_start
  line-is i =
      let us : List ℕ = units_in l s i in
      let ws : List (List ℕ) = string_words i (string_of l s i).wide (is_identifier l s i) (length us) in
      let end : List ℕ = slot_word (slot_of l s i) ++ (10 ∷ []) in
      ap (λ (z : List ℕ). z ++ end) (spaced_snoc ws (units_word us)) ∙ append_assoc (spaced ws) (units_word us ++ (32 ∷ [])) end
      ∙ ap (λ (z : List ℕ). spaced ws ++ z) (line_closes us (slot_of l s i))

  -- ---- what is left is the next piece, and what is left behind it

  strings_left_lem : (i : ℕ) → (i < strings_in s) ⊎ (strings_in s ≤ i) → left l s (strings i) ≡ piece_at l s (strings i)
      ++ left l s (next_of l s (strings i))
  unfolding strings_left
  strings_left_lem i (inl h) =
      let us : List ℕ = hexes (units_in l s i) ++ closing (length (units_in l s i)) (slot_of l s i) in
      rw (lt-ltb i (strings_in s) h, lines_next (string_line_in l s) i (strings_in s) h, line-is i)
      (regroup (string_start l s i) us (lines_from (string_line_in l s) (i + 1) (strings_in s - (i + 1)))
      (lines_from (function_line_in l s) 0 (functions_in s)))
  strings_left_lem i (inr h) =
      let e : functions_in s - 0 ≡ functions_in s = omega arith in
      rw (le-ltb i (strings_in s) h, lines_end (string_line_in l s) i (strings_in s) h, e)

  units_left_lem : (i j : ℕ) → (j < length (units_in l s i)) ⊎ (length (units_in l s i) ≤ j)
      → left l s (units i j) ≡ piece_at l s (units i j) ++ left l s (next_of l s (units i j))
  units_left_lem i j (inl h) =
      let us : List ℕ = units_in l s i in
      rw (lt-ltb j (length us) h, hexes-split chunk (drop j us), drop-drop chunk j us)
      (regroup' (hexes (take chunk (drop j us))) (hexes (drop (j + chunk) us)) (closing (length us) (slot_of l s i))
      (strings_left l s (i + 1)))
  units_left_lem i j (inr h) =
      rw (le-ltb j (length (units_in l s i)) h, drop_of_length-le (units_in l s i) h)
      (no_hexes (closing (length (units_in l s i)) (slot_of l s i)) (strings_left l s (i + 1)))

  functions_left : (i : ℕ) → (i < functions_in s) ⊎ (functions_in s ≤ i) → left l s (functions i) ≡ piece_at l s (functions i)
      ++ left l s (next_of l s (functions i))
  functions_left i (inl h) = rw (lt-ltb i (functions_in s) h, lines_next (function_line_in l s) i (functions_in s) h)
  functions_left i (inr h) = rw (le-ltb i (functions_in s) h, lines_end (function_line_in l s) i (functions_in s) h)

  pub piece_left : (x : Spot) → left l s x ≡ piece_at l s x ++ left l s (next_of l s x)
  unfolding listed strings_left
  piece_left counts = let e : strings_in s - 0 ≡ strings_in s = omega arith in rw e
  piece_left (strings i) = strings_left_lem i (below_or i (strings_in s))
  piece_left (units i j) = units_left_lem i j (below_or j (length (units_in l s i)))
  piece_left (functions i) = functions_left i (below_or i (functions_in s))
  piece_left end = refl

  pub pieces-left : (n : ℕ) (x : Spot) → left l s x ≡ pieces l s n x ++ left l s (after l s n x)
  unfolding pieces after
  pieces-left zero x = refl
  pieces-left (suc n) x =
      piece_left x
      ∙ ap (λ (z : List ℕ). piece_at l s x ++ z) (pieces-left n (next_of l s x))
      ∙ sym (append_assoc (piece_at l s x) (pieces l s n (next_of l s x)) (left l s (after l s n (next_of l s x))))

  -- ---- the number of pieces

  falls : (x : Spot) → phase (next_of l s x) < length (piece_at l s x) + phase x → steps l s (next_of l s x) < steps l s x
  unfolding steps
  falls x h =
      let e : length (left l s x) ≡ length (piece_at l s x) + length (left l s (next_of l s x))
      = ap length (piece_left x) ∙ length-append (piece_at l s x) (left l s (next_of l s x)) in
      omega arith

  strings_fall : (i : ℕ) → (i < strings_in s) ⊎ (strings_in s ≤ i)
      → phase (next_of l s (strings i)) < length (piece_at l s (strings i)) + phase (strings i)
  unfolding string_start spaced
  strings_fall i (inl h) = rw (lt-ltb i (strings_in s) h) (omega arith)
  strings_fall i (inr h) = rw (le-ltb i (strings_in s) h) (omega arith)

  closing-some : (n : ℕ) (slot : Option ℕ) → 0 < length (closing n slot)
  closing-some zero slot = omega arith
  closing-some (suc n) slot = omega arith

  units_fall : (i j : ℕ) → (j < length (units_in l s i)) ⊎ (length (units_in l s i) ≤ j)
      → phase (next_of l s (units i j)) < length (piece_at l s (units i j)) + phase (units i j)
  units_fall i j (inl h) =
      let us : List ℕ = units_in l s i in
      rw (lt-ltb j (length us) h, drop-cons us j 0 h) (omega (arith, length-hexes (take chunk (get_or us j 0 ∷ drop (suc j) us))))
  units_fall i j (inr h) = rw (le-ltb j (length (units_in l s i)) h) (omega (arith, closing-some (length (units_in l s i)) (slot_of l s i)))

  functions_fall : (i : ℕ) → (i < functions_in s) ⊎ (functions_in s ≤ i)
      → phase (next_of l s (functions i)) < length (piece_at l s (functions i)) + phase (functions i)
  unfolding function_line_in function_line spaced
  functions_fall i (inl h) = rw (lt-ltb i (functions_in s) h) (omega arith)
  functions_fall i (inr h) = rw (le-ltb i (functions_in s) h) (omega arith)

  next_falls : (x : Spot) → (x ≡ end) ⊎ (steps l s (next_of l s x) < steps l s x)
  next_falls counts = inr (falls counts (omega arith))
  next_falls (strings i) = inr (falls (strings i) (strings_fall i (below_or i (strings_in s))))
  next_falls (units i j) = inr (falls (units i j) (units_fall i j (below_or j (length (units_in l s i)))))
  next_falls (functions i) = inr (falls (functions i) (functions_fall i (below_or i (functions_in s))))
  next_falls end = inl refl

  after_end : (n : ℕ) → after l s n end ≡ end
  unfolding after
  after_end zero = refl
  after_end (suc n) = after_end n

  none_left : (x : Spot) → steps l s x ≤ 0 → x ≡ end
  unfolding steps
  none_left counts h = absurd (omega arith)
  none_left (strings i) h = absurd (omega arith)
  none_left (units i j) h = absurd (omega arith)
  none_left (functions i) h = absurd (omega arith)
  none_left end h = refl

  -- after as many pieces as that, nothing is left
  pub after_all : (n : ℕ) (x : Spot) → steps l s x ≤ n → after l s n x ≡ end
  unfolding after
  after_all zero x h = none_left x h
  after_all (suc n) x h = go (next_falls x) (after_all n (next_of l s x))
    where
      go : (x ≡ end) ⊎ (steps l s (next_of l s x) < steps l s x)
          → (steps l s (next_of l s x) ≤ n → after l s n (next_of l s x) ≡ end) → after l s n (next_of l s x) ≡ end
      go (inl e) r = rw e (after_end n)
      go (inr k) r = r (omega arith)

  -- some pieces more, and fewer steps are left, where it is not the end
  after_most : (n : ℕ) (x : Spot) → steps l s (after l s n x) ≤ steps l s x
  unfolding after
  after_most zero x = omega arith
  after_most (suc n) x = go (next_falls x) (after_most n (next_of l s x))
    where
      go : (x ≡ end) ⊎ (steps l s (next_of l s x) < steps l s x) → steps l s (after l s n (next_of l s x)) ≤ steps l s (next_of l s x)
          → steps l s (after l s n (next_of l s x)) ≤ steps l s x
      go (inl e) r = subst (λ (y : Spot). steps l s (after l s n (next_of l s x)) ≤ steps l s y) (ap (next_of l s) e ∙ sym e) r
      go (inr k) r = omega arith

  pub after-falls : (n : ℕ) (x : Spot) → 0 < n → is_end x ≡ false → steps l s (after l s n x) < steps l s x
  unfolding after
  after-falls zero x h f = absurd (omega arith)
  after-falls (suc n) x h f = go (next_falls x)
    where
      go : (x ≡ end) ⊎ (steps l s (next_of l s x) < steps l s x) → steps l s (after l s n (next_of l s x)) < steps l s x
      go (inl e) = let z : true ≡ false = ap is_end (sym e) ∙ f in let y : ◌≡◌ {A = ℕ} 0 1 = cc in absurd (omega arith)
      go (inr k) = omega (arith, after_most n (next_of l s x))

  -- THE PIECES IN ORDER ARE THE LISTING, once there are as many as it has bytes, and 3
  pub in_pieces : (n : ℕ) → length (listed l s) + 3 ≤ n → pieces l s n counts ≡ listed l s
  unfolding steps
  in_pieces n h =
      let e : after l s n counts ≡ end = after_all n counts h in
      sym (append-nil (pieces l s n counts)) ∙ ap (λ (x : Spot). pieces l s n counts ++ left l s x) (sym e)
      ∙ sym (pieces-left n counts)

  -- pieces that are made in two goes are those of one
  pub pieces_more : (m n : ℕ) (x : Spot) → pieces l s (m + n) x ≡ pieces l s m x ++ pieces l s n (after l s m x)
  unfolding pieces after
  pieces_more zero n x = ap (λ (k : ℕ). pieces l s k x) (let e : 0 + n ≡ n = omega arith in e)
  pieces_more (suc m) n x =
      let e : suc m + n ≡ suc (m + n) = omega arith in
      rw e (ap (λ (z : List ℕ). piece_at l s x ++ z) (pieces_more m n (next_of l s x))
      ∙ sym (append_assoc (piece_at l s x) (pieces l s m (next_of l s x)) (pieces l s n (after l s m (next_of l s x)))))
