-- The hash slots of the edited strings before the cursor are written.
use mathlib.Core.Path.{◌≡◌}
use Prim.Native.Nat.{◌-◌}
use lib.ListN.{length}
use Rattle.string_edits.specs.Values.{in_turn}
use Rattle.string_edits.specs.Told.{told, values_in}
use Rattle.string_in_place.specs.Patch.{hashed}
use Rattle.string_in_place.proofs.EditedLaws.{Edge}
use Rattle.string_in_place.proofs.put_hashes.Given as goal

abbrev pub invariant-loop-due : goal.invariant-loop-due
invariant-loop-due l =
    Edge l.p l.image (told l.form l.words) l.c l.due × (length l.out ≡ length l.initial.out)
    × (l.out ≡ in_turn (values_in (told l.form l.words) l.text l.ends) (hashed l.p.layout l.image) l.c.id l.initial.out)

abbrev pub decreases-loop-due : goal.decreases-loop-due
decreases-loop-due l = l.p.strings - l.c.id
