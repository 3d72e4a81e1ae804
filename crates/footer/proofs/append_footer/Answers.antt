-- 13 in two tests, so that nothing is taken from less; else the footer is put behind the image.
use Rattle.std.specs.Prelude.{Ok}
use mathlib.Core.Path.{ap, sym, ◌∙◌}
use native.Mathlib.Omega.{arith}
use Rattle.footer.proofs.FooterLaws.{append_out, append_fits, length_made, footed-stored}
use Rattle.footer.proofs.append_footer.Goals as goal
use Rattle.footer.proofs.append_footer.Goals.{then-buf-lt-FOOTER_LEN-via-then-buf-lt-FOOTER_LEN}
use Rattle.footer.proofs.append_footer.Goals.{then-buf-lt-FOOTER_LEN-via-else-buf-lt-FOOTER_LEN+then-buf-len}

pub returns-then-buf-lt-FOOTER_LEN : goal.returns-then-buf-lt-FOOTER_LEN
returns-then-buf-lt-FOOTER_LEN c =
    append_out _ _ (elim c.then-buf-lt-FOOTER_LEN.branch [
      | then-buf-lt-FOOTER_LEN-via-then-buf-lt-FOOTER_LEN w ↦ omega arith
      | then-buf-lt-FOOTER_LEN-via-else-buf-lt-FOOTER_LEN+then-buf-len w ↦ omega arith
    ])

pub returns : goal.returns
returns c =
    let a = c.args in
    rw (append_fits a.buf.now a.len (omega arith)) (
      ap Ok (sym (length_made a.buf.now a.len (omega arith))),
      c.put_footer.ensures
          ∙ footed-stored a.buf.now a.len (omega arith),
    )
