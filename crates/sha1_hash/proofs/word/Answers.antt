-- The first 16 words are the block's; each later one comes from four that the ring still holds.
use mathlib.Core.Path.{sym, ◌∙◌}
use native.Mathlib.Omega.{arith}
use Rattle.sha1_hash.proofs.ScheduleLaws.{early_word}
use Rattle.sha1_hash.proofs.RingLaws.{from_ring}
use Rattle.sha1_hash.proofs.word.Goals as goal

pub returns-then-t-lt16 : goal.returns-then-t-lt16
returns-then-t-lt16 c = c.big_word.ensures ∙ sym (early_word _ _ c.if-t-lt16.true)

pub returns : goal.returns
returns c = c.next_word.ensures ∙ from_ring c.args.block.now _ c.args.t c.requires.2 (omega arith) c.requires.0
