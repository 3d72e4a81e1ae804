-- The facts of the first k strings stand at the front; the pass has come to the next one.
use mathlib.Core.Path.{◌≡◌}
use Prim.Native.Nat.{◌+◌}
use lib.ListN.{length}
use lib.Seq.{sets}
use Rattle.string_walk.specs.Places.{CursorOf}
use Rattle.facts.specs.Facts.{facts_from}
use Rattle.facts.proofs.put_strings.Given as goal

abbrev pub invariant-loop-k : goal.invariant-loop-k
invariant-loop-k l =
    (l.c.id ≡ l.initial.c.id + l.k) × CursorOf l.p l.image l.c × (length l.out ≡ length l.initial.out)
    × (l.out ≡ sets l.initial.out 0 (facts_from l.p.layout l.image l.initial.c.id l.k))
