-- Five words, one behind the other: each is stored over zeros, and together they fill the array.
use mathlib.Core.Path.{refl}
use lib.ListN.{replicate}
use Rattle.sha1_hash.proofs.BigEndianLaws.{five_words}
use Rattle.sha1_hash.proofs.digest_bytes.Goals as goal

pub returns : goal.returns
returns c =
    five_words (replicate 20 0) _ _ _ _ _ _
    (record {
      long = refl;
      first = c.put_big_word.ensures;
      second = c.put_big_word-2.ensures;
      third = c.put_big_word-3.ensures;
      fourth = c.put_big_word-4.ensures;
      fifth = c.put_big_word-5.ensures;
    })
