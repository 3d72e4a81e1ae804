use mathlib.Core.Path.{◌∙◌}
use native.Mathlib.Omega.{arith}
use Rattle.header_write.specs.Headers.{legacy_header}
use Rattle.header_write.proofs.HeaderLaws.{header_short, header_done, parts}
use Rattle.header_write.proofs.headers.write_legacy_header.Goals as goal

pub returns-then-buf-at : goal.returns-then-buf-at
returns-then-buf-at c = header_short _ _ (omega arith)

pub returns : goal.returns
unfolding legacy_header
returns c =
    header_done _ _ _ (omega arith)
    (c.put_legacy_back.auto.buf ∙ c.put_legacy_front.auto.buf
    ∙ c.put_identity.auto.buf)
    (parts _ _ _ _ _ _ (rw c.put_identity.ensures at c.put_legacy_front.ensures)
    c.put_legacy_back.ensures)
