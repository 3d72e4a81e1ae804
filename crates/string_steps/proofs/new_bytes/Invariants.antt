-- The values of the strings before the index are summed.
use mathlib.Core.Path.{◌≡◌}
use Prim.Native.Nat.{◌≤◌, ◌*◌}
use Rattle.string_edits.specs.Told.{told, values_in}
use Rattle.string_edits.specs.declared.Form.TheVariants.{Marks}
use Rattle.string_packing.specs.Pass.{string_most}
use Rattle.string_steps.specs.Room.{new_bytes}
use Rattle.string_steps.proofs.new_bytes.Given as goal

abbrev pub invariant-loop-mark : goal.invariant-loop-mark
invariant-loop-mark l =
    (l.sum ≡ new_bytes (values_in (told Marks l.marks) l.text l.ends) l.mark-index) × (l.sum ≤ l.mark-index * string_most)
