-- What is known of a rebuild before its first byte is written, and what is judged by it.
-- docs/FORMAT.md: String patches, Packing.
use Rattle.std.specs.Prelude.{◌≡◌, true, false, not, List, [], ◌∷◌, ℕ, ◌+◌, ◌-◌, ◌≤◌, ltb, length}
use Rattle.refusals.specs.Numbers as refusals
use Rattle.bits.specs.Choice.{Check, check, judge}
use Rattle.bits.specs.Bytes.{up4}
use Rattle.bits.specs.Outcome.{Outcome, refused, made}
use Rattle.format.specs.declared.Mode.{Mode}
use Rattle.format.specs.Table.{overflow_entry}
use Rattle.format.specs.Number.{entry_at}
use Rattle.format.specs.Move.{moved}
use Rattle.footer.specs.Finalize.{size_limit}
use Rattle.edits.specs.Fit.{fields_fit}
use Rattle.sections.specs.declared.Places.{Places}
use Rattle.string_walk.specs.declared.Cursor.{Cursor}
use Rattle.string_edits.specs.Values.{Values}
use Rattle.string_edits.specs.Told.{Told, values_in}
use Rattle.string_packing.specs.declared.Sizes.{Sizes}
use Rattle.string_packing.specs.Strings.{string_with}
use Rattle.string_packing.specs.Pass.{Measured}
use Rattle.string_in_place.specs.Known.{Given}
use Rattle.string_in_place.specs.Patch.{fits_all}
use Rattle.string_rebuild.specs.declared.Plan.{Plan}

-- ---- judging

-- where the tail starts behind tables and storage of these sizes, and the length of an image of n bytes with it
abbrev pub tail_of : Places → Sizes → ℕ
tail_of p z = up4 (entry_at p.over_at overflow_entry z.overflows + z.storage)

unfoldable pub plan_of : Places → ℕ → Sizes → Plan
plan_of p n z = record { sizes = z; tail = tail_of p z; length = n - p.tail + tail_of p z }

-- the plan for the strings of an image with the values that they get
pub record Planned (m : Mode) (p : Places) (s : List ℕ) (v : Values) (plan : Plan) : Type 0 where
  pub measured : Measured m p (string_with p.layout s v) plan.sizes
  pub is : plan ≡ plan_of p (length s) plan.sizes

-- what is judged of a plan in so much room, as 01 orders it: 11, 12, 13
abbrev pub plan_checks : Places → List ℕ → Plan → ℕ → List Check
plan_checks p s plan room =
    check refusals.limit (ltb size_limit plan.length)
    ∷ check refusals.field (not (fields_fit p.layout s (moved p.tail plan.tail)))
    ∷ check refusals.room (ltb room plan.length) ∷ []

unfoldable pub plan_refusal : Places → List ℕ → Plan → ℕ → ℕ
plan_refusal p s plan room = judge (plan_checks p s plan room)

-- the number of a refusal, 0 being none
abbrev pub number_of : Outcome → ℕ
number_of (refused n) = n
number_of (made t) = 0

-- ---- writing

-- strings of an admitted image get values that do not all fit in place
pub record Asked (p : Places) (s : List ℕ) (edits : Told) (text ends : List ℕ) (c : Cursor) : Type 0 where
  pub given : Given p s edits text ends c
  pub moves : fits_all p.layout s (values_in edits text ends) ≡ false

-- the measured sizes and the tail's new start are at hand, the buffer has the length of the result, and small records hold the places
-- that move
pub record Ready (m : Mode) (p : Places) (s : List ℕ) (edits : Told) (text ends : List ℕ) (c : Cursor) (z : Sizes)
    (to room : ℕ) : Type 0 where
  pub asked : Asked p s edits text ends c
  pub measured : Measured m p (string_with p.layout s (values_in edits text ends)) z
  pub tail : to ≡ tail_of p z
  pub long : room ≡ length s - p.tail + to
  pub limit : room ≤ size_limit
  pub fields : fields_fit p.layout s (moved p.tail to) ≡ true
