-- Each edit before the cursor passes the test.
use mathlib.Core.Path.{◌≡◌}
use mathlib.Core.Bool.{true}
use Prim.Native.Nat.{◌-◌}
use Rattle.string_edits.specs.Values.{all_edited}
use Rattle.string_edits.specs.Told.{told, values_in}
use Rattle.string_in_place.specs.Known.{tested}
use Rattle.string_in_place.proofs.EditedLaws.{Edge}
use Rattle.string_in_place.proofs.all_pass.Given as goal

abbrev pub invariant-loop-next : goal.invariant-loop-next
invariant-loop-next l =
    Edge l.p l.image (told l.form l.words) l.c l.next
    × (all_edited (values_in (told l.form l.words) l.text l.ends) (tested l.overlaps l.p.layout l.image) l.c.id ≡ true)

abbrev pub decreases-loop-next : goal.decreases-loop-next
decreases-loop-next l = l.p.strings - l.c.id
