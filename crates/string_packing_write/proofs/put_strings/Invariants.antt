-- The strings before the cursor stand in the buffer as their packing has them.
use mathlib.Core.Path.{◌≡◌}
use Prim.Native.Nat.{◌≤◌, ◌-◌}
use lib.ListN.{length}
use Rattle.edits.specs.Packing.{packed}
use Rattle.string_edits.specs.Told.{told, values_in}
use Rattle.string_packing.specs.Strings.{string_with}
use Rattle.string_packing.specs.Pass.{Reached}
use Rattle.string_packing_write.specs.Region.{region_put}
use Rattle.string_packing_write.proofs.put_strings.Given as goal

abbrev pub invariant-loop-c : goal.invariant-loop-c
invariant-loop-c l =
    (l.c.old.id ≤ l.p.strings) × (length l.out ≡ length l.initial.out)
    × Reached l.mode l.p l.image (string_with l.p.layout l.image (values_in (told l.form l.words) l.text l.ends)) l.c
    × (l.out ≡ region_put l.to l.c.old.id (packed l.mode (string_with l.p.layout l.image (values_in (told l.form l.words) l.text l.ends))
    l.c.old.id)
    l.initial.out)

abbrev pub decreases-loop-c : goal.decreases-loop-c
decreases-loop-c l = l.p.strings - l.c.old.id
