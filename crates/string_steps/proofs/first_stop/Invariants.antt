-- No patch of a string before the cursor is refused, and whether all these strings fit in place is known.
use Prim.Native.Nat.{◌-◌}
use Rattle.string_steps.proofs.StopLaws.{Passing}
use Rattle.string_steps.proofs.first_stop.Given as goal

abbrev pub invariant-loop-next : goal.invariant-loop-next
invariant-loop-next l = Passing l.mode l.p l.image l.marks l.text l.ends l.room l.c l.next l.fits

abbrev pub decreases-loop-next : goal.decreases-loop-next
decreases-loop-next l = l.p.strings - l.c.id
