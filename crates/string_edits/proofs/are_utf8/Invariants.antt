-- Each value before number j is UTF-8.
use mathlib.Core.Path.{◌≡◌}
use mathlib.Core.Bool.{true}
use Rattle.bits.specs.Choice.{all_below}
use Rattle.utf.specs.Utf8.{is_utf8}
use Rattle.string_edits.specs.Lists.{value_in}
use Rattle.string_edits.proofs.are_utf8.Given as goal

abbrev pub invariant-loop-j : goal.invariant-loop-j
invariant-loop-j l = all_below l.j (λ i. is_utf8 (value_in l.text l.ends i)) ≡ true
