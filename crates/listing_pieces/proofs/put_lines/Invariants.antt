-- What was copied is the part of the pieces so far that is asked for; the pieces left fall.
use mathlib.Core.Path.{◌≡◌}
use lib.ListN.{length}
use Rattle.listing_pieces.specs.Pieces.{spot_of, steps}
use Rattle.listing_pieces.proofs.PartLaws.{Copying}
use Rattle.listing_pieces.proofs.put_lines.Given as goal

abbrev pub invariant-loop-p : goal.invariant-loop-p
invariant-loop-p l =
    Copying l.p l.image l.initial.out l.from l.limit l.out l.point l.skip l.at × (length l.room ≡ length l.initial.room)

abbrev pub decreases-loop-p : goal.decreases-loop-p
decreases-loop-p l = steps l.p.layout l.image (spot_of l.point)
