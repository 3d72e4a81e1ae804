-- One large header against all functions. 01, refusal 6: "the words of a record's large header share a byte with those of another
-- record's .. or with any body".
-- docs/FORMAT.md: Admission.
use Rattle.std.specs.Prelude.{Bool, not, List, ℕ, ltb, eqb}
use Rattle.bits.specs.Choice.{both, implies, all_below}
use Rattle.format.specs.declared.Layout.{Layout}
use Rattle.format.specs.Table as table
use Rattle.image.specs.Sections.{functions_in}
use Rattle.image.specs.Functions.{Func, func_of}
use Rattle.image.specs.Admission.{apart, headers_apart, bodies_apart}

-- the header of g and that of f, where f is another function
abbrev pub clear_of_header : ℕ → Bool → Func → Func → Bool
clear_of_header w other g f = implies other (implies f.large (apart f.ptr w g.ptr w))

-- the header of g and the body of f
abbrev pub clear_of_body : ℕ → Func → Func → Bool
clear_of_body w g f = implies (ltb 0 f.size) (apart g.ptr w f.begin f.size)

abbrev pub clear_of : ℕ → Bool → Func → Func → Bool
clear_of w other g f = both (clear_of_header w other g f) (clear_of_body w g f)

-- function i, against the header of function j
unfoldable pub clear_at : Layout → List ℕ → ℕ → ℕ → Bool
clear_at l s j i = clear_of (table.large_row l).width (not (eqb i j)) (func_of l s j) (func_of l s i)

-- all functions, against the header of function j if it has one
unfoldable pub header_clear : Layout → List ℕ → ℕ → Bool
header_clear l s j = implies (func_of l s j).large (all_below (functions_in s) (clear_at l s j))

-- both conditions of refusal 6 that compare functions
unfoldable pub all_apart : Layout → List ℕ → Bool
all_apart l s = both (headers_apart l s) (bodies_apart l s)
