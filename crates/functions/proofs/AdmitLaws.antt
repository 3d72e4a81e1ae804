-- What an admitted image gives to a body patch.
use mathlib.Core.Path.{◌≡◌, ap}
use mathlib.Core.List.{List}
use Prim.Native.Nat.{ℕ, ◌+◌, ◌≤◌, ◌<◌}
use native.Mathlib.Omega.{arith}
use lib.ListN.{length}
use Rattle.format.specs.declared.Layout.{Layout}
use Rattle.footer.specs.Footer.{footer_length}
use Rattle.image.specs.Sections.{functions_in}
use Rattle.image.specs.Functions.{Func, func_of}
use Rattle.image.specs.Admitted.{Admitted}
use Rattle.image.proofs.PlaceLaws.{ordered}
use Rattle.image.proofs.CheckLaws.{headers_in_lem}
use Rattle.sections.specs.declared.Places.{Places}
use Rattle.sections.specs.Places.{places_of, Fits}
use Rattle.function_table.specs.declared.Function.{Function}
use Rattle.function_table.specs.Functions.{Readable}
use Rattle.function_checks.specs.Checks.{FunctionIs}

module _ (l : Layout) (s : List ℕ) where
  module _ (ok : Admitted l s) where
    pub fits : Fits l s
    fits = record { most = ok.most; room = ok.room }

    -- what reading a function asks for
    pub readable : Readable l s
    readable = (fits, (headers_in_lem l s).passed ok.header)

    pub least_length_lem : 128 + footer_length ≤ length s
    least_length_lem = let o = ordered l s in omega (arith, ok.room, o.kinds, o.hashes, o.small, o.over, o.storage, o.tail)

    pub body_ends : (id : ℕ) → id < functions_in s → (func_of l s id).begin + (func_of l s id).size + footer_length ≤ length s
    body_ends id h = (ok.body id h).1

    pub body_starts : (id : ℕ) → id < functions_in s → 128 ≤ (func_of l s id).begin
    body_starts id h =
        let o = ordered l s in omega (arith, o.kinds, o.hashes, o.small, o.over, o.storage, o.tail, (ok.body id h).0)

    pub target_ends : (id : ℕ) (f : Function) → id < functions_in s → FunctionIs l s id f
        → f.begin + f.size + footer_length ≤ length s
    target_ends id f h t =
        let a : f.begin ≡ (func_of l s id).begin = ap (λ (x : Func). x.begin) t.is in
        let b : f.size ≡ (func_of l s id).size = ap (λ (x : Func). x.size) t.is in
        omega (arith, body_ends id h)

-- ---- its record of places

module _ (l : Layout) (s : List ℕ) (p : Places) (e : p ≡ places_of l s) where
  pub layout_is : p.layout ≡ l
  unfolding places_of
  layout_is = ap (λ (x : Places). x.layout) e

  pub functions_are : p.functions ≡ functions_in s
  unfolding places_of
  functions_are = ap (λ (x : Places). x.functions) e
