-- Each pair before number q is settled.
use mathlib.Core.Path.{◌≡◌}
use mathlib.Core.Bool.{true}
use Rattle.po_targets.specs.Marks.{all_flagged}
use Rattle.po_targets.proofs.are_found.Given as goal

abbrev pub invariant-loop-q : goal.invariant-loop-q
invariant-loop-q l = all_flagged l.text l.ends l.q l.m l.work ≡ true
