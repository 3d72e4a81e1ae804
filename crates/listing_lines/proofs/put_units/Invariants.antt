-- What is still to be written from unit i on makes of the buffer what all units make of the first one.
use Prim.Native.Nat.{◌+◌, ◌-◌, ◌*◌, ◌≤◌}
use mathlib.Core.Path.{◌≡◌}
use lib.ListN.{length}
use lib.Seq.{sets}
use Rattle.text.specs.Text.{hexes}
use Rattle.listing_lines.specs.Lines.{units_shown}
use Rattle.listing_lines.proofs.put_units.Given as goal

abbrev pub invariant-loop-i : goal.invariant-loop-i
invariant-loop-i l =
    (length l.out ≡ length l.initial.out)
    × (sets l.out (l.at + l.i * 4) (hexes (units_shown l.image l.start l.wide (l.first + l.i) (l.n - l.i))) ≡ sets l.initial.out l.at
    (hexes (units_shown l.image l.start l.wide l.first l.n)))
