-- No end before number j is below the one before it or past the text.
use mathlib.Core.Path.{◌≡◌}
use mathlib.Core.Bool.{true}
use Rattle.bits.specs.Choice.{all_below}
use Rattle.string_edits.proofs.ListLaws.{splits}
use Rattle.string_edits.proofs.is_split.Given as goal

abbrev pub invariant-loop-j : goal.invariant-loop-j
invariant-loop-j l = all_below l.j (splits l.text l.ends) ≡ true
