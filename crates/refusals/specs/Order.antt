-- The order in which numbers are due, for each kind of entry. 01, Refusal numbers, "Order"; 02.
-- docs/FORMAT.md: Order.
use Rattle.std.specs.Prelude.{Bool, true, false, List, [], ◌∷◌, ◌++◌, ℕ, suc, eqb}
use Rattle.refusals.specs.Numbers as refusals

-- "1 to 6 as numbered"
abbrev pub of_image : List ℕ
of_image = refusals.size ∷ refusals.magic ∷ refusals.sections ∷ refusals.kinds ∷ refusals.string ∷ refusals.function ∷ []

-- 02, No. 8: "12 after 1"
abbrev pub of_shift : List ℕ
of_shift = refusals.size ∷ refusals.field ∷ []

-- "then 11, 12, 13"
abbrev pub of_result : List ℕ
of_result = refusals.limit ∷ refusals.field ∷ refusals.room ∷ []

-- "by id 7, 8"
abbrev pub of_string_by_id : List ℕ
of_string_by_id = of_image ++ (refusals.id ∷ refusals.value ∷ of_result)

-- 02, No. 4: "17, an id given twice, after 7 and before 8"
abbrev pub of_pass : List ℕ
of_pass = of_image ++ (refusals.id ∷ refusals.twice ∷ refusals.value ∷ of_result)

-- "by value 8 (old, new), 14"
abbrev pub of_string_by_value : List ℕ
of_string_by_value = of_image ++ (refusals.value ∷ refusals.absent ∷ of_result)

-- 02, No. 1: "1 to 6; 16 ..; 14 ..; 11 to 13"; the space that is lent for work comes right behind 1 to 6
abbrev pub of_file : List ℕ
of_file = of_image ++ (refusals.file ∷ refusals.absent ∷ of_result)

-- 02, No. 6: those of a patch by id, but for 13, which is of the lent index and comes right behind 1 to 6
abbrev pub of_reason : List ℕ
of_reason = of_image ++ (refusals.room ∷ refusals.id ∷ refusals.value ∷ refusals.limit ∷ refusals.field ∷ [])

-- "bodies 7, 9, 10"
abbrev pub of_body : List ℕ
of_body = of_image ++ (refusals.id ∷ refusals.inside ∷ refusals.empty ∷ of_result)

-- ---- the turn of a number: how many come before it in an order

abbrev pub one_more : Bool → ℕ → ℕ
one_more true n = 0
one_more false n = suc n

unfoldable pub turn_in : List ℕ → ℕ → ℕ
turn_in [] n = 0
turn_in (k ∷ ks) n = one_more (eqb k n) (turn_in ks n)
