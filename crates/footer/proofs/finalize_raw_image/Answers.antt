-- Under, over, or within the limits; there the length is put before the footer, which covers it where they overlap.
use Rattle.std.specs.Prelude.{Ok}
use mathlib.Core.Path.{refl, ap, sym}
use Rattle.footer.proofs.FinalizeLaws.{finalize_under, finalize_over, finalize_within, length_finalized, finalized}
use Rattle.footer.proofs.finalize_raw_image.Goals as goal
use Rattle.footer.proofs.finalize_raw_image.Goals.{then-n-lt-LEAST_LENGTH-via-then-n-lt-LEAST_LENGTH}
use Rattle.footer.proofs.finalize_raw_image.Goals.{then-n-lt-LEAST_LENGTH-via-else-n-lt-LEAST_LENGTH+then-n-gt-SIZE_LIMIT}

pub returns-then-n-lt-LEAST_LENGTH : goal.returns-then-n-lt-LEAST_LENGTH
returns-then-n-lt-LEAST_LENGTH c =
    elim c.then-n-lt-LEAST_LENGTH.branch [
      | then-n-lt-LEAST_LENGTH-via-then-n-lt-LEAST_LENGTH w ↦ rw (finalize_under c.args.buf.now w.if-n-lt-LEAST_LENGTH.true) (refl, refl)
      | then-n-lt-LEAST_LENGTH-via-else-n-lt-LEAST_LENGTH+then-n-gt-SIZE_LIMIT w ↦
          rw (finalize_over c.args.buf.now w.if-n-lt-LEAST_LENGTH.false w.if-n-gt-SIZE_LIMIT.true) (refl, refl)
    ]

pub returns : goal.returns
returns c =
    let s = c.args.buf.now in
    let least = c.if-n-lt-LEAST_LENGTH.false in
    rw (finalize_within s least c.if-n-gt-SIZE_LIMIT.false) (
      ap Ok (sym (length_finalized s least)),
      finalized s _ _ least c.put_word.ensures c.put_footer.ensures,
    )
