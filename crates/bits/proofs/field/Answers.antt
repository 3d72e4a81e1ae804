use Rattle.std.proofs.Common.{refl, mod-lt, arith, pow_pos}
use lib.Bits.{and_mask}
use Rattle.bits.specs.Fields.{field_of}
use Rattle.bits.proofs.MaskLaws.{bit}
use Rattle.bits.proofs.field.Goals as goal

pub returns : goal.returns
unfolding field_of
returns c = rw (bit c.args.width (omega arith), and_mask) (refl, mod-lt _ (pow_pos _))
