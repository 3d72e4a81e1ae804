-- Functions as code reads them, and the part of refusal 6 that speaks of one function at a time.
-- docs/FORMAT.md: Large headers, Admission.
use Rattle.std.specs.Prelude.{◌≡◌, Bool, true, List, ℕ, ◌+◌, ◌<◌, leb, Err, Ok, Result}
use Rattle.refusals.specs.Numbers as refusals
use Rattle.bits.specs.Choice.{pick, both, implies}
use Rattle.format.specs.declared.Layout.{Layout}
use Rattle.format.specs.Table as table
use Rattle.format.specs.Record.{pointer}
use Rattle.footer.specs.Footer.{footer_length}
use Rattle.image.specs.Functions.{Func, func_of}
use Rattle.image.specs.Admission.{in_tail, place_in_tail, headers_in, bodies_in, infos_in}
use Rattle.sections.specs.Places.{Fits}
use Rattle.function_table.specs.declared.Function.{Function}

-- ---- the code's function is the definitions'

abbrev pub as_func : Function → Func
as_func f = record { large = f.large; ptr = f.ptr; begin = f.begin; size = f.size; info = f.info }

abbrev pub as_function : Func → Function
as_function f = record { large = f.large; ptr = f.ptr; begin = f.begin; size = f.size; info = f.info }

-- its numbers are words, so that no sum of two wraps
pub record WordSized (f : Function) : Type 0 where
  pub ptr : f.ptr < 4294967296
  pub begin : f.begin < 4294967296
  pub size : f.size < 4294967296
  pub info : f.info < 4294967296

-- an image whose sections and large headers may be read: what reading a function goes by, also before the image is admitted
abbrev pub Readable : Layout → List ℕ → Type 0
Readable l s = Fits l s × (headers_in l s ≡ true)

-- ---- a header is read only where its words stand in the tail

-- the pointer of record n, judged as a whole number
unfoldable pub pointer_judged : Layout → List ℕ → ℕ → Result ℕ ℕ
pointer_judged l s n =
    pick (in_tail l s (pointer l n) (table.large_row l).width) (Ok (pointer l n)) (Err refusals.function)

-- the words of a function's large header stand in the tail
abbrev pub header_in : Layout → List ℕ → Func → Bool
header_in l s f = implies f.large (in_tail l s f.ptr (table.large_row l).width)

-- function i, or 6
unfoldable pub function_read : Layout → List ℕ → ℕ → Result Function ℕ
function_read l s i = pick (header_in l s (func_of l s i)) (Ok (as_function (func_of l s i))) (Err refusals.function)

-- the words of a function that was found
abbrev pub FoundSized : Result Function ℕ → Type 0
FoundSized (Ok f) = WordSized f
FoundSized (Err n) = Unit {0}

-- ---- places of one function

-- n bytes from a place stand from `tail` on, before the footer of an image of `len` bytes
abbrev pub within : ℕ → ℕ → ℕ → ℕ → Bool
within tail len at n = both (leb tail at) (leb (at + n + footer_length) len)

-- its large header, its body and its info place
unfoldable pub function_in : Layout → List ℕ → Func → Bool
function_in l s f = both (header_in l s f) (both (in_tail l s f.begin f.size) (place_in_tail l s f.info))

-- those of all functions
unfoldable pub functions_in_tail : Layout → List ℕ → Bool
functions_in_tail l s = both (headers_in l s) (both (bodies_in l s) (infos_in l s))
