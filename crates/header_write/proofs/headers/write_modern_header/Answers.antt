use mathlib.Core.Path.{◌∙◌}
use native.Mathlib.Omega.{arith}
use Rattle.header_write.specs.Headers.{modern_header, run}
use Rattle.header_write.proofs.HeaderLaws.{header_short, header_done, parts}
use Rattle.header_write.proofs.headers.write_modern_header.Goals as goal

pub returns-then-buf-at : goal.returns-then-buf-at
returns-then-buf-at c = header_short _ _ (omega arith)

pub returns : goal.returns
unfolding modern_header run
returns c =
    header_done _ _ _ (omega arith)
    (c.put_rows-2.auto.buf ∙ c.put_rows.auto.buf ∙ c.put_identity.auto.buf)
    (parts _ _ _ _ _ _ (rw c.put_identity.ensures at c.put_rows.ensures)
    c.put_rows-2.ensures)
