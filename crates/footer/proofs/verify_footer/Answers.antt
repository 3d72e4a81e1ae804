-- Too short, or the two parts of the buffer: what is hashed, and what is compared with it.
use mathlib.Core.Path.{sym, ◌∙◌}
use Rattle.footer.proofs.FooterLaws.{verified_short, verified-long}
use Rattle.footer.proofs.verify_footer.Goals as goal

pub returns-then-buf-lt-FOOTER_LEN : goal.returns-then-buf-lt-FOOTER_LEN
returns-then-buf-lt-FOOTER_LEN c = sym (verified_short c.args.buf.now c.if-buf-lt-FOOTER_LEN.true)

pub returns : goal.returns
returns c =
    c.same_bytes.ensures ∙ verified-long c.args.buf.now _ c.if-buf-lt-FOOTER_LEN.false
    c.compute_file_hash-hash.ensures
