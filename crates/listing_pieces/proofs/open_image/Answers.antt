-- 15 where the record does not end with the input, then the image's own number.
use native.Mathlib.Omega.{arith}
use Rattle.listing_pieces.proofs.ListingLaws.{record_ends, record_judged}
use Rattle.listing_pieces.proofs.open_image.Goals as goal
use Rattle.listing_pieces.proofs.open_image.Goals.{then-input-from-via-then-input-from}
use Rattle.listing_pieces.proofs.open_image.Goals.{then-input-from-via-else-input-from+then-input-from-2}

pub returns-then-input-from : goal.returns-then-input-from
returns-then-input-from c =
    record_ends c.args.layout c.args.length c.args.input.now
    (elim c.then-input-from.branch [
      | then-input-from-via-then-input-from w ↦ λ e. omega (arith, w.if-input-from.true, e)
      | then-input-from-via-else-input-from+then-input-from-2 w ↦ λ e. w.if-input-from-2.true (omega (arith, e))
    ])

-- the image is judged
pub returns : goal.returns
returns c = record_judged (record { ends = omega arith; answer = c.admit.ensures })
