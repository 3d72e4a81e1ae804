-- All strings before the one that a pass has come to are the string itself or apart from it.
use mathlib.Core.Path.{◌≡◌}
use mathlib.Core.Bool.{true}
use mathlib.Core.List.{List}
use Prim.Native.Nat.{ℕ}
use Rattle.bits.specs.Choice.{all_below}
use Rattle.sections.specs.Places.{Laid}
use Rattle.string_index.specs.Filling.{Indexed}
use Rattle.string_overlap.specs.Overlap.{is_apart}
use Rattle.string_reasons.proofs.lowest_overlap.Given as goal

abbrev pub invariant-loop-i : goal.invariant-loop-i
invariant-loop-i l =
    (s : List ℕ) → Laid l.p s → Indexed l.p s l.index → all_below l.i (is_apart l.p.layout s l.id) ≡ true
