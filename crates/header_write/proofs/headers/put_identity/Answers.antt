use Rattle.header_write.specs.Headers.{identity, put_all}
use Rattle.header_write.proofs.headers.put_identity.Goals as goal

pub returns : goal.returns
unfolding identity put_all
returns c =
    rw (
      c.put_bytes.ensures,
      c.at-2.ensures,
      c.put_word.ensures,
      c.put_word64.ensures,
      c.at.ensures,
    )
