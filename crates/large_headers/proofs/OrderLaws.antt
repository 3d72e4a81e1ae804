-- Functions in order: the pass that finds them so, and why their large headers are apart.
use mathlib.Core.Path.{◌≡◌, refl, sym}
use mathlib.Core.Bool.{Bool, true, false, not}
use mathlib.Core.Logic.{inl, inr, ◌≢◌}
use mathlib.Core.List.{List}
use Prim.Native.Nat.{ℕ, zero, suc, ◌+◌, ◌≤◌, ◌<◌}
use native.Mathlib.Nat.{not-suc-le-zero}
use native.Mathlib.Numerals.{add-one}
use native.Mathlib.Omega.{arith}
use lib.Dec.{leb, ltb}
use borrow.Author.Tests.{leb-true, ltb-true, ltb-false, lt-ltb}
use Rattle.bits.specs.Choice.{pick, both, all_below}
use Rattle.bits.proofs.TestLaws.{below, below_or, both_0, both_1, both_of, imp_use, all_at}
use Rattle.bits.proofs.PassLaws.{pass_next, pass_stop}
use Rattle.format.specs.declared.Layout.{Layout}
use Rattle.format.specs.Table as table
use Rattle.image.specs.Sections.{functions_in}
use Rattle.image.specs.Functions.{Func, func_of}
use Rattle.image.specs.Admission.{headers_apart, bodies_apart}
use Rattle.image.specs.Admitted.{Disjoint}
use Rattle.image.proofs.CheckLaws.{headers_apart_lem, bodies_apart_lem}
use Rattle.large_headers.specs.Order.{end_with, first_with, bodies_with, headers_end, headers_start, bodies_end, ascends}
use Rattle.large_headers.specs.Order.{ascends_at, ordered, in_order}
use Rattle.large_headers.specs.Clear.{all_apart}

-- ---- the pass

pub order_none : (w : ℕ) (fs : ℕ → Func)
    → (◌≡◌ {A = ℕ} 0 (headers_end w fs 0)) × (◌≡◌ {A = ℕ} 67108864 (headers_start fs 0)) × (◌≡◌ {A = ℕ} 0 (bodies_end fs 0))
unfolding headers_end headers_start bodies_end
order_none w fs = (refl, refl, refl)

module _ (fs : ℕ → Func) (i : ℕ) (f : Func) (e : f ≡ fs i) where
  pub first_next : (m r : ℕ) → m ≡ headers_start fs i → r ≡ first_with m f → r ≡ headers_start fs (i + 1)
  unfolding headers_start
  first_next m r h k = rw (add-one, ← h, ← e, k)

  pub bodies_next : (m r : ℕ) → m ≡ bodies_end fs i → r ≡ bodies_with m f → r ≡ bodies_end fs (i + 1)
  unfolding bodies_end
  bodies_next m r h k = rw (add-one, ← h, ← e, k)

module _ (w : ℕ) (fs : ℕ → Func) (i : ℕ) (f : Func) (e : f ≡ fs i) where
  pub end_next : (m r : ℕ) → m ≡ headers_end w fs i → r ≡ end_with w m f → r ≡ headers_end w fs (i + 1)
  unfolding headers_end
  end_next m r h k = rw (add-one, ← h, ← e, k)

-- f is function i, the headers before it end at m, and r says whether its own is behind them
pub record OrderTurn (w : ℕ) (fs : ℕ → Func) (i : ℕ) (f : Func) (m : ℕ) (r : Bool) : Type 0 where
  pub is : f ≡ fs i
  pub end : m ≡ headers_end w fs i
  pub test : r ≡ ascends m f

module _ {w : ℕ} {fs : ℕ → Func} {i : ℕ} {f : Func} {m : ℕ} {r : Bool} (z : OrderTurn w fs i f m r) where
  ascends_here : r ≡ ascends_at w fs i
  unfolding ascends_at
  ascends_here = rw (← z.end, ← z.is, z.test)

  pub ascends_next : not r ≡ false → all_below i (ascends_at w fs) ≡ true → all_below (i + 1) (ascends_at w fs) ≡ true
  ascends_next t a = pass_next (ascends_at w fs) i r ascends_here t a

  pub not_behind : (n : ℕ) → not r ≡ true → i < n → false ≡ ordered w fs n
  unfolding ordered
  not_behind n t l = rw (← pass_stop (ascends_at w fs) n i r l ascends_here t)

pub order_end : (w : ℕ) (fs : ℕ → Func) (n a b : ℕ) → a ≡ bodies_end fs n → b ≡ headers_start fs n
    → all_below n (ascends_at w fs) ≡ true → leb a b ≡ ordered w fs n
unfolding ordered
order_end w fs n a b g h k = rw (g, h, k)

pub image_order : (l : Layout) (s : List ℕ) (w n : ℕ) (r : Bool) → w ≡ (table.large_row l).width → n ≡ functions_in s
    → r ≡ ordered w (func_of l s) n → r ≡ in_order l s
unfolding in_order
image_order l s w n r e g h = rw (← e, ← g, h)

-- ---- in order, so apart

-- the lesser of two numbers, taken where a test holds, and the greater
least : (b c : Bool) (x y : ℕ) → ltb x y ≡ c → (pick (both b c) x y ≤ y) × (b ≡ true → pick (both b c) x y ≤ x)
least true true x y e = (omega (arith, ltb-true x y e), λ t. omega arith)
least true false x y e = (omega arith, λ t. ltb-false x y e)
least false c x y e = (omega arith, λ t. let z : ◌≡◌ {A = ℕ} 0 1 = cc in absurd (omega arith))

most : (b c : Bool) (x y : ℕ) → ltb y x ≡ c → (y ≤ pick (both b c) x y) × (b ≡ true → x ≤ pick (both b c) x y)
most true true x y e = (omega (arith, ltb-true y x e), λ t. omega arith)
most true false x y e = (omega arith, λ t. ltb-false y x e)
most false c x y e = (omega arith, λ t. let z : ◌≡◌ {A = ℕ} 0 1 = cc in absurd (omega arith))

module _ (fs : ℕ → Func) where
  -- no large header starts before the first
  start_before : (i j : ℕ) → j < i → (fs j).large ≡ true → headers_start fs i ≤ (fs j).ptr
  unfolding headers_start
  start_before zero j h t = absurd (not-suc-le-zero h)
  start_before (suc i) j h t =
      let y = least (fs i).large (ltb (fs i).ptr (headers_start fs i)) (fs i).ptr (headers_start fs i) refl in
      elim (below j i h) [ inl e ↦ rw e (y.1 (rw e at t)) | inr l ↦ omega (arith, y.0, start_before i j l t) ]

  -- no body that is not empty ends past the last
  end_past : (i j : ℕ) → j < i → 0 < (fs j).size → (fs j).begin + (fs j).size ≤ bodies_end fs i
  unfolding bodies_end
  end_past zero j h z = absurd (not-suc-le-zero h)
  end_past (suc i) j h z =
      let y
      = most (ltb 0 (fs i).size) (ltb (bodies_end fs i) ((fs i).begin + (fs i).size)) ((fs i).begin + (fs i).size) (bodies_end fs i) refl in
      elim (below j i h) [ inl e ↦ rw e (y.1 (lt-ltb 0 (fs i).size (rw e at z))) | inr l ↦ omega (arith, y.0, end_past i j l z) ]

-- function i of n has a large header
record Header (fs : ℕ → Func) (n i : ℕ) : Type 0 where
  known : i < n
  large : (fs i).large ≡ true

-- two functions have
record TwoHeaders (fs : ℕ → Func) (n i j : ℕ) : Type 0 where
  first : Header fs n i
  second : Header fs n j
  two : i ≢ j

-- function i of n has a body that is not empty
record SomeBody (fs : ℕ → Func) (n i : ℕ) : Type 0 where
  known : i < n
  some : 0 < (fs i).size

module _ (w : ℕ) (fs : ℕ → Func) (n : ℕ) (o : ordered w fs n ≡ true) where
  behind : (i : ℕ) → Header fs n i → headers_end w fs i ≤ (fs i).ptr
  unfolding ordered ascends_at
  behind i x =
      let a : all_below n (ascends_at w fs) ≡ true = both_0 (all_below n (ascends_at w fs)) (leb (bodies_end fs n) (headers_start fs n))
      o in
      leb-true (headers_end w fs i) (fs i).ptr (imp_use (fs i).large _ (all_at (ascends_at w fs) n i a x.known) x.large)

  bodies_first : bodies_end fs n ≤ headers_start fs n
  unfolding ordered
  bodies_first =
      leb-true (bodies_end fs n) (headers_start fs n)
      (both_1 (all_below n (ascends_at w fs)) (leb (bodies_end fs n) (headers_start fs n)) o)

  -- each large header ends where the pass says, or before
  ends : (i j : ℕ) → i ≤ n → Header fs i j → (fs j).ptr + w ≤ headers_end w fs i
  unfolding headers_end
  ends zero j h x = absurd (not-suc-le-zero x.known)
  ends (suc i) j h x =
      elim (below j i x.known) [
        | inl q ↦ rw q (own (fs i).large (rw q at x.large))
        | inr l ↦ later (fs i).large (ends i j (omega arith) (record { known = l; large = x.large }))
            (λ u. behind i (record { known = omega arith; large = u }))
      ]
    where
      own : (b : Bool) → b ≡ true → (fs i).ptr + w ≤ pick b ((fs i).ptr + w) (headers_end w fs i)
      own b e = rw e (omega arith)

      later : (b : Bool) → (fs j).ptr + w ≤ headers_end w fs i → (b ≡ true → headers_end w fs i ≤ (fs i).ptr)
          → (fs j).ptr + w ≤ pick b ((fs i).ptr + w) (headers_end w fs i)
      later true r u = omega (arith, u refl)
      later false r u = r

  headers_off : (i j : ℕ) → TwoHeaders fs n i j → Disjoint (fs i).ptr w (fs j).ptr w
  headers_off i j x z =
      let a : Header fs n i = x.first in
      let b : Header fs n j = x.second in
      elim (below_or i j) [
        | inl l ↦ omega (arith, ends j i (omega arith) (record { known = l; large = a.large }), behind j b)
        | inr l ↦ elim (below j i (omega arith)) [
          | inl e ↦ absurd (x.two (sym e))
          | inr m ↦ absurd (omega (arith, ends i j (omega arith) (record { known = m; large = b.large }), behind i a))
        ]
      ]

  bodies_off : (i j : ℕ) → SomeBody fs n i → Header fs n j → Disjoint (fs j).ptr w (fs i).begin (fs i).size
  bodies_off i j b a y =
      absurd (omega (arith, start_before fs n j a.known a.large, end_past fs n i b.known b.some, bodies_first))

-- THE LAW OF THE PASS: functions in order meet both conditions
pub in_order_apart : (l : Layout) (s : List ℕ) → in_order l s ≡ true → true ≡ all_apart l s
unfolding in_order all_apart
in_order_apart l s o =
    let w : ℕ = (table.large_row l).width in
    let fs : ℕ → Func = func_of l s in
    let n : ℕ = functions_in s in
    sym (both_of (headers_apart l s) (bodies_apart l s)
    ((headers_apart_lem l s).passed (λ i h j k two t u. headers_off w fs n o i j
    (record { first = record { known = h; large = t }; second = record { known = k; large = u }; two = two })))
    ((bodies_apart_lem l s).passed (λ i h j k z t. bodies_off w fs n o i j (record { known = h; some = z })
    (record { known = k; large = t }))))
