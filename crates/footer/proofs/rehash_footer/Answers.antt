use Rattle.footer.proofs.FooterLaws.{rehash_long, rehash_short}
use Rattle.footer.proofs.rehash_footer.Goals as goal

pub returns-then-len-lt-FOOTER_LEN : goal.returns-then-len-lt-FOOTER_LEN
returns-then-len-lt-FOOTER_LEN c =
    let a = c.args in
    rw (rehash_short a.buf.now a.len c.if-len-lt-FOOTER_LEN.true) c.append_footer.ensures

pub returns : goal.returns
returns c =
    let a = c.args in
    rw (rehash_long a.buf.now a.len c.if-len-lt-FOOTER_LEN.false) c.append_footer-2.ensures
