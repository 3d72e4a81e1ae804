-- Places under one accepted step: 0 stays 0, and a tail byte outside the words of the large headers is outside them still.
use mathlib.Core.Path.{◌≡◌}
use mathlib.Core.Logic.{inl, inr}
use mathlib.Core.List.{List}
use Prim.Native.Nat.{ℕ, ◌+◌, ◌-◌, ◌≤◌, ◌<◌}
use native.Mathlib.Omega.{arith}
use lib.ListN.{length}
use Rattle.bits.proofs.TestLaws.{below_or}
use Rattle.format.specs.declared.Layout.{Layout}
use Rattle.format.specs.Table as table
use Rattle.format.specs.Move.{moved}
use Rattle.format.proofs.MoveLaws.{moved-low, moved-high}
use Rattle.image.specs.Sections.{functions_in, tail_at}
use Rattle.image.specs.Functions.{func_of}
use Rattle.image.specs.Admitted.{Disjoint, Admitted}
use Rattle.image.proofs.PlaceLaws.{ordered}
use Rattle.edits.proofs.RebuildLaws.{Large}
use Rattle.patches.specs.Patches.{Patch, by_id, by_value, in_pass, to_body, Target, to_values, a_body, target_of}
use Rattle.patches.specs.Promise.{moves_from, moves_to, place_after, OutsideBody, OutsideHeaders, Kept}
use Rattle.patches.specs.Faults.{PatchFault}
use Rattle.patches.specs.Faults.PatchFault.{no_function}

-- the body that is set is there
abbrev pub Known : Layout → List ℕ → Target → Type 0
Known l s (to_values m v) = Unit {0}
Known l s (a_body id body) = id < functions_in s

pub known : (l : Layout) (s : List ℕ) (room : ℕ) (p : Patch) → ((n : ℕ) → PatchFault l s room p n → ⊥)
    → Known l s (target_of l s p)
unfolding target_of
known l s room (by_id m id value) f = tt
known l s room (by_value m old new) f = tt
known l s room (in_pass m e k) f = tt
known l s room (to_body id body) f = elim (below_or id (functions_in s)) [ inl h ↦ h | inr h ↦ absurd (f 7 (no_function id body h)) ]

-- z bytes from a are replaced by n: w bytes from x that share none with them do not come to share one with the byte p
moved_clear : (a z n x w p : ℕ) → (0 < z → Disjoint x w a z) → (p < a + z → p < a) → Disjoint x w p 1
    → Disjoint (moved (a + z) (a + n) x) w (moved (a + z) (a + n) p) 1
moved_clear a z n x w p clear out d g =
    elim (below_or x (a + z)) [
      | inl h ↦ elim (below_or p (a + z)) [
        | inl k ↦ rw (low x h, low p k) (d (rw (low x h, low p k) at g))
        | inr k ↦ rw (low x h, high p k)
            (elim (below_or 0 z) [ inl q ↦ omega (arith, clear q h) | inr q ↦ omega (arith, d (omega arith)) ])
      ]
      | inr h ↦ elim (below_or p (a + z)) [
        | inl k ↦ absurd (omega (arith, high x h, low p k, out k))
        | inr k ↦ rw (high x h, high p k) (omega (arith, d (omega (arith, high x h, high p k))))
      ]
    ]
  where
    low : (q : ℕ) → q < a + z → moved (a + z) (a + n) q ≡ q
    low = moved-low (a + z) (a + n)

    high : (q : ℕ) → a + z ≤ q → moved (a + z) (a + n) q ≡ q - (a + z) + (a + n)
    high = moved-high (a + z) (a + n)

-- a step on an admitted image: the body that is set is there
pub record Stepped (l : Layout) (s : List ℕ) (c : Target) : Type 0 where
  pub admitted : Admitted l s
  pub known : Known l s c

-- a byte of the tail, in no large header and not in the body that is set
pub record TailByte (l : Layout) (s : List ℕ) (c : Target) (p : ℕ) : Type 0 where
  pub tail : tail_at l s ≤ p
  pub body : OutsideBody l s c p
  pub headers : OutsideHeaders l s p

pub zero_stays : (l : Layout) (s : List ℕ) (c : Target) → Stepped l s c → place_after l s c 0 ≡ 0
zero_stays l s c st = moved-low (moves_from l s c) (moves_to l s c) 0 (past c st)
  where
    past : (c : Target) → Stepped l s c → 0 < moves_from l s c
    past (to_values m v) st = let o = ordered l s in omega (arith, o.kinds, o.hashes, o.small, o.over, o.storage, o.tail)
    past (a_body id body) st =
        let o = ordered l s in
        omega (arith, o.kinds, o.hashes, o.small, o.over, o.storage, o.tail, (st.admitted.body id st.known).0)

header_clear_lem : (l : Layout) (s : List ℕ) (c : Target) → Stepped l s c → (p : ℕ) → TailByte l s c p → (j : ℕ) → Large l s j
    → Disjoint (place_after l s c (func_of l s j).ptr) (table.large_row l).width (place_after l s c p) 1
header_clear_lem l s (to_values m v) st p tb j la =
    let from = tail_at l s in
    let to = moves_to l s (to_values m v) in
    let x : ℕ = (func_of l s j).ptr in
    let h = (st.admitted.header j la.known la.large).0 in
    let a = moved-high from to x h in
    let b = moved-high from to p tb.tail in
    λ g. rw (a, b) (omega (arith, h, tb.tail, tb.headers j la.known la.large (omega (arith, a, b))))
header_clear_lem l s (a_body id body) st p tb j la =
    let f = func_of l s id in
    moved_clear f.begin f.size (length body) (func_of l s j).ptr (table.large_row l).width p
    (λ z. st.admitted.clear id j st.known la.known z la.large) tb.body (tb.headers j la.known la.large)

pub headers_after : (l : Layout) (s : List ℕ) (t : List ℕ) (c : Target) → Kept l s t c → Stepped l s c → (p : ℕ)
    → TailByte l s c p → OutsideHeaders l t (place_after l s c p)
headers_after l s t c k st p tb j h g =
    let i : j < functions_in s = rw k.functions at h in
    let e = k.function j i in
    rw e (header_clear_lem l s c st p tb j (record { known = i; large = rw e at g }))
