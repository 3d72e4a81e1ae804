use Rattle.bits.specs.Word32.{add32}
use Rattle.bits.proofs.word32.add.Goals as goal

pub returns : goal.returns
unfolding add32
returns c = c.wrapping_add_u32.ensures.value
