-- Sums modulo 2^32, one after the other, as the standard adds them.
use Rattle.sha1_hash.specs.Sha1.{turned}
use Rattle.sha1_hash.proofs.turn.Goals as goal

pub returns : goal.returns
unfolding turned
returns c =
    rw (
      c.add-t.ensures,
      c.add-3.ensures,
      c.add-2.ensures,
      c.add.ensures,
      c.rotl.ensures,
      c.rotl-c.ensures,
    )
