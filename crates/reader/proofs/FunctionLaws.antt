-- What is read of a function lies in the image.
use mathlib.Core.Path.{◌≡◌, subst⁻¹}
use mathlib.Core.List.{List}
use Prim.Native.Nat.{ℕ, ◌+◌, ◌≤◌, ◌<◌}
use native.Mathlib.Omega.{arith}
use lib.ListN.{length}
use Rattle.footer.specs.Footer.{footer_length}
use Rattle.image.specs.Functions.{Func, func_of}
use Rattle.sections.specs.declared.Places.{Places}
use Rattle.sections.specs.Places.{Laid}
use Rattle.sections.proofs.SectionLaws.{Sectioned, sectioned}
use Rattle.function_table.specs.declared.Function.{Function}
use Rattle.function_table.specs.Functions.{as_func}

-- the body of a function ends before the footer
pub function-inside : (p : Places) (s : List ℕ) → Laid p s → (id : ℕ) → id < p.functions
    → (q : Function) → as_func q ≡ func_of p.layout s id → q.begin + q.size + footer_length ≤ length s
function-inside p s h id b q e =
    let z : Sectioned p s = sectioned p s h.placed in
    subst⁻¹ (λ (y : Func). y.begin + y.size + footer_length ≤ length s) e (h.admitted.body id (omega arith)).1
