-- What is judged of a body and of what takes its place. 01, Bodies: "9 is given when another body shares a byte with it, an empty
-- one starts strictly within it, any info place lies from its start to below the threshold, or a nonzero debug offset is below
-- the threshold".
-- docs/FORMAT.md: Body patches.
use Rattle.std.specs.Prelude.{◌≡◌, Bool, not, List, ℕ, ◌+◌, leb, ltb, eqb, length}
use Rattle.bits.specs.Choice.{both, either, implies, all_below}
use Rattle.format.specs.declared.Layout.{Layout}
use Rattle.format.specs.Move.{moved}
use Rattle.image.specs.Sections.{functions_in, debug_in}
use Rattle.image.specs.Functions.{Func, func_of}
use Rattle.edits.specs.Fit.{beyond, size_row}
use Rattle.function_table.specs.declared.Function.{Function}
use Rattle.function_table.specs.Functions.{as_func, WordSized}

-- "With threshold = body start + old size"
abbrev pub threshold : Func → ℕ
threshold f = f.begin + f.size

-- ---- 9 inside

-- body g shares a byte with body f, or is empty and starts strictly within it
abbrev pub shares_with : Func → Func → Bool
shares_with f g = both (ltb 0 f.size) (both (ltb g.begin (threshold f)) (ltb f.begin (threshold g)))

unfoldable pub body_alone : Layout → List ℕ → ℕ → Bool
body_alone l s id = all_below (functions_in s) (λ j. implies (not (eqb j id)) (not (shares_with (func_of l s id) (func_of l s j))))

-- the info place of g lies from the start of body f to below the threshold
abbrev pub info_within : Func → Func → Bool
info_within f g = both (leb f.begin g.info) (ltb g.info (threshold f))

-- that of no function does, the body's own too
unfoldable pub infos_outside : Layout → List ℕ → ℕ → Bool
infos_outside l s id = all_below (functions_in s) (λ j. not (info_within (func_of l s id) (func_of l s j)))

-- no nonzero debug offset is below the threshold
unfoldable pub debug_past : Layout → List ℕ → ℕ → Bool
debug_past l s id = implies (not (eqb (debug_in l s) 0)) (leb (threshold (func_of l s id)) (debug_in l s))

-- ---- 10 empty: "old body empty, new one not"

abbrev pub from_nothing : ℕ → ℕ → Bool
from_nothing old new = both (eqb old 0) (ltb 0 new)

-- ---- 11 and 12

-- what lies at or past the threshold moves by as much as the body grows
abbrev pub moved_past_body : Layout → List ℕ → ℕ → List ℕ → ℕ → ℕ
moved_past_body l s id body = moved (threshold (func_of l s id)) ((func_of l s id).begin + length body)

-- the new size of a function without a large header fits its record
unfoldable pub size_fits : Layout → List ℕ → ℕ → List ℕ → Bool
size_fits l s id body = either (func_of l s id).large (not (beyond (size_row l) (length body)))

-- ---- code's function is the one that is patched

pub record FunctionIs (l : Layout) (s : List ℕ) (id : ℕ) (f : Function) : Type 0 where
  pub is : as_func f ≡ func_of l s id
  pub sized : WordSized f
