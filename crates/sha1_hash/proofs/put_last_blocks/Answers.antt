-- The rest, the byte behind it and the length in two words are put in an array of zeros: that is the padded rest.
use Rattle.sha1_hash.proofs.BlockLaws.{padded_rest}
use Rattle.sha1_hash.proofs.put_last_blocks.Goals as goal

pub returns : goal.returns
returns c =
    padded_rest c.args.rest.now c.args.n c.requires.1 _ _ _ _
    (record {
      counted = c.last_count-end.ensures;
      copied = rw c.requires.0 at c.put_bytes.ensures;
      high = c.put_big_word.ensures;
      low = c.put_big_word-2.ensures;
    })
