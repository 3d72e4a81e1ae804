-- The names that the code has for the numbers. 01, Refusal numbers: its table.
-- docs/FORMAT.md: Refusals.
use Rattle.std.specs.Prelude.{◌≡◌, ℕ, List, [], ◌∷◌, ◌-◌, get_or, refl}
use Rattle.std.proofs.Common.{ap}
use Rattle.refusals.specs.Numbers as refusals
use Rattle.refusals.specs.declared.Name.{Name}
use Rattle.refusals.specs.declared.Name.TheVariants as name
use Rattle.refusals.specs.declared.Refusal.TheInside.{Inside}

-- the number of a name
abbrev pub number_of : Name → ℕ
number_of name.Size = refusals.size
number_of name.Magic = refusals.magic
number_of name.Sections = refusals.sections
number_of name.Kinds = refusals.kinds
number_of name.String = refusals.string
number_of name.Function = refusals.function
number_of name.Id = refusals.id
number_of name.Value = refusals.value
number_of name.Inside = refusals.inside
number_of name.Empty = refusals.empty
number_of name.Limit = refusals.limit
number_of name.Field = refusals.field
number_of name.Room = refusals.room
number_of name.Absent = refusals.absent
number_of name.Job = refusals.job
number_of name.File = refusals.file
number_of name.Twice = refusals.twice

-- all names, in the order of their numbers
abbrev pub names : List Name
names =
    name.Size ∷ name.Magic ∷ name.Sections ∷ name.Kinds ∷ name.String ∷ name.Function ∷ name.Id ∷ name.Value ∷ name.Inside ∷ name.Empty
    ∷ name.Limit ∷ name.Field ∷ name.Room ∷ name.Absent ∷ name.Job ∷ name.File ∷ name.Twice ∷ []

-- what contracts see of a refusal
abbrev pub number : Inside → ℕ
number a = number_of a.name

-- the refusal of a number
abbrev pub of_number : ℕ → Inside
of_number n = record { name = get_or names (n - 1) name.Size }

-- a name is that of its number
pub name_back : (a : Name) → get_or names (number_of a - 1) name.Size ≡ a
name_back name.Size = refl
name_back name.Magic = refl
name_back name.Sections = refl
name_back name.Kinds = refl
name_back name.String = refl
name_back name.Function = refl
name_back name.Id = refl
name_back name.Value = refl
name_back name.Inside = refl
name_back name.Empty = refl
name_back name.Limit = refl
name_back name.Field = refl
name_back name.Room = refl
name_back name.Absent = refl
name_back name.Job = refl
name_back name.File = refl
name_back name.Twice = refl

-- and so is a refusal
pub number_back : (a : Inside) → of_number (number a) ≡ a
number_back a = ap (λ k. record { name = k }) (name_back a.name)
