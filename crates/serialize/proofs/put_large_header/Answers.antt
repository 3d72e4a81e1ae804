-- Zeros, then field by field: each write lies within the zeros.
use mathlib.Core.Path.{◌∙◌}
use lib.ListN.{length-set}
use Rattle.bits.specs.Bytes.{bytes_of}
use Rattle.serialize.proofs.PartLaws.{large_laid}
use Rattle.serialize.proofs.put_large_header.Goals as goal

pub shape_of-image : goal.shape_of-image
shape_of-image c =
    rw length-set
    (c.put_word-5.auto.s ∙ c.put_word-4.auto.s ∙ c.put_word-3.auto.s ∙ c.put_word-2.auto.s
    ∙ c.put_word.auto.s ∙ c.put_zeros.auto.s)

pub returns : goal.returns
unfolding bytes_of
returns c =
    rw c.at.ensures
    (large_laid c.args.image.now _ _ _ _ _ _ c.args.at c.args.begin c.args.size
    (record {
      zeros = record { room = c.requires; laid = rw c.width.ensures at c.put_zeros.ensures };
      offset = c.put_word.ensures;
      params = c.put_word-2.ensures;
      sized = c.put_word-3.ensures;
      regs = c.put_word-4.ensures;
      frame = c.put_word-5.ensures;
    }))
