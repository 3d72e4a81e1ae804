-- The strings before the cursor stand in the buffer as their packing has them, whatever those before the stretch are: each of the stretch
-- is the one that the code writes.
use mathlib.Core.Path.{◌≡◌}
use lib.ListN.{length}
use Rattle.string_edits.specs.Values.{Values}
use Rattle.string_packing.specs.Strings.{string_with}
use Rattle.string_packing.specs.Pass.{Reached}
use Rattle.string_packing_write.specs.Written.{LaidOn}
use Rattle.string_packing_write.proofs.StretchLaws.{Writing}
use Rattle.string_packing_write.proofs.put_stretch.Given as goal

abbrev pub invariant-loop-id : goal.invariant-loop-id
invariant-loop-id l =
    (l.c.old.id ≡ l._id) × (length l.out ≡ length l.initial.out)
    × ((v : Values) → Writing l.mode l.p l.image v l.value (record { next = l.next; new = l.new; end = l._id-end })
    l.initial.c l.to (length l.initial.out)
    → Reached l.mode l.p l.image (string_with l.p.layout l.image v) l.c
    × LaidOn l.mode l.to (string_with l.p.layout l.image v) l.initial.c.old.id l.c.old.id l.initial.out l.out)
