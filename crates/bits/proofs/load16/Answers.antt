use Rattle.bits.proofs.ByteLaws.{number_at-words}
use Rattle.bits.proofs.load16.Goals as goal

pub returns : goal.returns
returns c = rw (number_at-words c.args.s.now 0 8, c.word64-2.ensures, c.word64.ensures)
