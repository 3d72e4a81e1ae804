use mathlib.Core.Path.{◌∙◌}
use Rattle.sha1_hash.proofs.next_word.Goals as goal

pub returns : goal.returns
returns c = c.rotl.ensures ∙ rw (c.xor-3.ensures, c.xor-2.ensures, c.xor.ensures)
