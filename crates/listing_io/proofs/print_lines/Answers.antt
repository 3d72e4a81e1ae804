use Rattle.std.proofs.Common.{ap, not}
use Rattle.listing_pieces.proofs.PointLaws.{batch-falls}
use Rattle.listing_io.proofs.print_lines.Goals as goal

pub loop-p-smaller : goal.loop-p-smaller
loop-p-smaller g c =
    batch-falls _ _ _ _ c.loop-p.point _ c.put_pieces-piece.ensures _ c.is_end.ensures (ap not c.loop-p-test.true)
