-- What the reader answers. 01: "1 to 6 as numbered", then 7 where there is no such string or function.
-- docs/FORMAT.md: Reading.
use Rattle.std.specs.Prelude.{List, [], ◌∷◌, ◌++◌, ℕ, leb, eqb, Err, Ok, Result}
use Rattle.refusals.specs.Numbers as refusals
use Rattle.bits.specs.Choice.{pick, check, judge}
use Rattle.format.specs.declared.Layout.{Layout}
use Rattle.image.specs.Sections.{functions_in, strings_in}
use Rattle.image.specs.Functions.{func_of}
use Rattle.image.specs.Admission.{checks}
use Rattle.function_table.specs.Functions.{as_function}
use Rattle.string_walk.specs.Records.{record_of}
use Rattle.string_walk.specs.Walk.{visits}
use Rattle.string_walk.specs.declared.Location.{Location}
use Rattle.function_table.specs.declared.Function.{Function}

-- the number of a reading by id among so many, 0 being none
unfoldable pub id_refusal : Layout → List ℕ → ℕ → ℕ → ℕ
id_refusal l s count id = judge (checks l s ++ (check refusals.id (leb count id) ∷ []))

-- ---- strings

-- string id as it is located: its record, and what is visited on the way to it
abbrev pub located : Layout → List ℕ → ℕ → Location
located l s id = record { id = id; string = record_of l s id; counts = visits l s id }

-- the record of string id (02, No. 5), with what locating it visits (02, No. 9); a refusal has no counts
unfoldable pub string_read : Layout → List ℕ → ℕ → Result Location ℕ
string_read l s id =
    let n = id_refusal l s (strings_in s) id in
    pick (eqb n 0) (Ok (located l s id)) (Err n)

-- ---- bodies

-- function id: its large header, its body's place and its info place
unfoldable pub body_read : Layout → List ℕ → ℕ → Result Function ℕ
body_read l s id =
    let n = id_refusal l s (functions_in s) id in
    pick (eqb n 0) (Ok (as_function (func_of l s id))) (Err n)
