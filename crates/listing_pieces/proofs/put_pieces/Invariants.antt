-- The first _i pieces stand at the front of the buffer, and the point is the one behind them.
use Prim.Native.Nat.{◌-◌}
use Rattle.listing_pieces.proofs.PointLaws.{Going}
use Rattle.listing_pieces.proofs.put_pieces.Given as goal

abbrev pub invariant-loop-i : goal.invariant-loop-i
invariant-loop-i l = Going l.p l.image l.initial.out l.initial.point l.out l.point l.at l._i
