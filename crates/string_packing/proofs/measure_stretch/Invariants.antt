-- The strings before the cursor are packed, whatever those before the stretch are: those of the stretch are what the code holds of them.
use mathlib.Core.Path.{◌≡◌}
use Rattle.string_packing.proofs.PassLaws.{PackedOn}
use Rattle.string_packing.proofs.measure_stretch.Given as goal

abbrev pub invariant-loop-id : goal.invariant-loop-id
invariant-loop-id l =
    (l.c.old.id ≡ l._id)
    × PackedOn l.mode l.p l.image (record { next = l.next; new = l.new; end = l._id-end }) l.initial.c l.c
