use Rattle.bits.proofs.Word32Laws.{and_is}
use Rattle.bits.proofs.word32.and.Goals as goal

pub returns : goal.returns
returns c = and_is 32 c.args.a c.args.b c.ranges.a.fits c.ranges.b.fits
