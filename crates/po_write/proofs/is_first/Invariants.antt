-- No written string from the cursor up to this one has its value; at the end of the chain none has.
use Rattle.po_write.proofs.WalkLaws.{Walks}
use Rattle.po_write.proofs.is_first.Given as goal

abbrev pub invariant-loop-c : goal.invariant-loop-c
invariant-loop-c l = Walks l.p l.image l.id l.c

abbrev pub decreases-loop-c : goal.decreases-loop-c
decreases-loop-c l = l.c
