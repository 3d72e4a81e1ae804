use Rattle.std.proofs.Common.{arith}
use Rattle.bits.proofs.Word32Laws.{rotl_is}
use Rattle.bits.proofs.word32.rotl.Goals as goal

pub returns : goal.returns
returns c = rotl_is c.args.n c.args.x (omega arith) c.ranges.x.fits
