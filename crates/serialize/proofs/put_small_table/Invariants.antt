-- The small entries of the strings before i stand in their place.
use mathlib.Core.Path.{◌≡◌}
use lib.ListN.{length}
use lib.Seq.{sets}
use Rattle.serialize.specs.Parts.{small_table, small_at}
use Rattle.serialize.proofs.put_small_table.Given as goal

abbrev pub invariant-loop-i : goal.invariant-loop-i
invariant-loop-i l =
    (length l.image ≡ length l.initial.image) × (l.image ≡ sets l.initial.image small_at (small_table l.ends l.i))
