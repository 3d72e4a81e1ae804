-- Functions in the order in which compilers lay them out: each large header behind the one before it, and all bodies before the
-- first of them.
-- docs/FORMAT.md: Admission.
use Rattle.std.specs.Prelude.{Bool, List, ℕ, zero, suc, ◌+◌, leb, ltb}
use Rattle.bits.specs.Choice.{pick, both, implies, all_below}
use Rattle.format.specs.declared.Layout.{Layout}
use Rattle.format.specs.Table as table
use Rattle.footer.specs.Finalize.{size_limit}
use Rattle.image.specs.Sections.{functions_in}
use Rattle.image.specs.Functions.{Func, func_of}

-- ---- what a pass carries along, with one function more

-- where the last large header ends
abbrev pub end_with : ℕ → ℕ → Func → ℕ
end_with w end f = pick f.large (f.ptr + w) end

-- where the first large header by place starts
abbrev pub first_with : ℕ → Func → ℕ
first_with first f = pick (both f.large (ltb f.ptr first)) f.ptr first

-- where the last body by place ends that is not empty
abbrev pub bodies_with : ℕ → Func → ℕ
bodies_with end f = pick (both (ltb 0 f.size) (ltb end (f.begin + f.size))) (f.begin + f.size) end

-- ---- of the functions before i

unfoldable pub headers_end : ℕ → (ℕ → Func) → ℕ → ℕ
headers_end w fs zero = 0
headers_end w fs (suc i) = end_with w (headers_end w fs i) (fs i)

-- no header: none starts before the limit of an image's length
unfoldable pub headers_start : (ℕ → Func) → ℕ → ℕ
headers_start fs zero = size_limit
headers_start fs (suc i) = first_with (headers_start fs i) (fs i)

unfoldable pub bodies_end : (ℕ → Func) → ℕ → ℕ
bodies_end fs zero = 0
bodies_end fs (suc i) = bodies_with (bodies_end fs i) (fs i)

-- ---- the order

-- a large header is behind those that end at `end`
abbrev pub ascends : ℕ → Func → Bool
ascends end f = implies f.large (leb end f.ptr)

unfoldable pub ascends_at : ℕ → (ℕ → Func) → ℕ → Bool
ascends_at w fs i = ascends (headers_end w fs i) (fs i)

unfoldable pub ordered : ℕ → (ℕ → Func) → ℕ → Bool
ordered w fs n = both (all_below n (ascends_at w fs)) (leb (bodies_end fs n) (headers_start fs n))

-- the functions of an image are in order
unfoldable pub in_order : Layout → List ℕ → Bool
in_order l s = ordered (table.large_row l).width (func_of l s) (functions_in s)
