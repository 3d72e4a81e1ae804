-- The strings before the cursor are packed.
use Prim.Native.Nat.{◌≤◌, ◌-◌}
use Rattle.string_edits.specs.Told.{told, values_in}
use Rattle.string_packing.specs.Strings.{string_with}
use Rattle.string_packing.specs.Pass.{Reached}
use Rattle.string_packing.proofs.measure.Given as goal

abbrev pub invariant-loop-c : goal.invariant-loop-c
invariant-loop-c l =
    (l.c.old.id ≤ l.p.strings) × Reached l.mode l.p l.image
    (string_with l.p.layout l.image (values_in (told l.form l.words) l.text l.ends)) l.c

abbrev pub decreases-loop-c : goal.decreases-loop-c
decreases-loop-c l = l.p.strings - l.c.old.id
