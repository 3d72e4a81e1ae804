-- The point is a good one, and the pieces left fall.
use Rattle.std.proofs.Common.{◌≡◌, length}
use Rattle.listing_pieces.specs.Pieces.{spot_of, steps, Good}
use Rattle.listing_io.proofs.print_lines.Given as goal

abbrev pub invariant-loop-p : goal.invariant-loop-p
invariant-loop-p g l = Good l.p l.image l.point × (length l.room ≡ length l.initial.room)

abbrev pub decreases-loop-p : goal.decreases-loop-p
decreases-loop-p g l = steps l.p.layout l.image (spot_of l.point)
