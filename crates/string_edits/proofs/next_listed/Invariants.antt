-- The nearest of the edits before number j.
use Rattle.string_edits.specs.Lists.{NearestOf}
use Rattle.string_edits.proofs.next_listed.Given as goal

abbrev pub invariant-loop-j : goal.invariant-loop-j
invariant-loop-j l = NearestOf l.ids l.from l.j l.best
