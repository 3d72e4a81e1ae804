use Rattle.bits.proofs.ByteLaws.{number_at-words}
use Rattle.bits.proofs.load12.Goals as goal

pub returns : goal.returns
returns c = rw (number_at-words c.args.s.now 0 4, c.word.ensures.0, c.word64.ensures)
