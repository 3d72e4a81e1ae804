-- The values of the edited strings before the cursor stand over their bytes.
use mathlib.Core.Path.{◌≡◌}
use Prim.Native.Nat.{◌-◌}
use lib.ListN.{length}
use Rattle.string_edits.specs.Values.{in_turn}
use Rattle.string_edits.specs.Told.{told, values_in}
use Rattle.string_in_place.specs.Patch.{over_old}
use Rattle.string_in_place.proofs.EditedLaws.{Edge}
use Rattle.string_in_place.proofs.put_values.Given as goal

abbrev pub invariant-loop-next : goal.invariant-loop-next
invariant-loop-next l =
    Edge l.p l.image (told l.form l.words) l.c l.next
    × (length l.out ≡ length l.initial.out)
    × (l.out ≡ in_turn (values_in (told l.form l.words) l.text l.ends) (over_old l.p.layout l.image) l.c.id l.initial.out)

abbrev pub decreases-loop-next : goal.decreases-loop-next
decreases-loop-next l = l.p.strings - l.c.id
