use Rattle.bits.proofs.Word32Laws.{xor_is}
use Rattle.bits.proofs.word32.xor.Goals as goal

pub returns : goal.returns
returns c = xor_is 32 c.args.a c.args.b c.ranges.a.fits c.ranges.b.fits
