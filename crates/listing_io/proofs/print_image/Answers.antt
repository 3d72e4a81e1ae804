-- The image of an input that was opened stands behind the head and is admitted, and its index has words enough.
use Rattle.std.proofs.Common.{arith, ◌-◌, length}
use Rattle.std.proofs.Math.ListN.{take, drop}
use Rattle.sections.specs.Places.{Laid}
use Rattle.string_index.proofs.IndexLaws.{indexed}
use Rattle.listing_pieces.proofs.ListingLaws.{opened-long, opened_part, opened-words}
use Rattle.listing_io.proofs.print_image.Goals as goal

pub slice_bounds-image-count : goal.slice_bounds-image-count
slice_bounds-image-count g c = opened-long _ _ c.requires.input_value

pub slice_bounds-image-start : goal.slice_bounds-image-start
slice_bounds-image-start g c = opened-long _ _ c.requires.input_value

pub fill-requires : goal.fill-requires
fill-requires g c = (
  opened_part c.args.input.now _ (λ i. (c.type_inv.input i).fits) c.requires.input_value,
  omega (arith, opened-words _ _ (λ i. (c.type_inv.input i).fits) c.requires.input_value),
)

pub print_lines-requires-clause-ready : goal.print_lines-requires-clause-ready
print_lines-requires-clause-ready g c =
    let i = c.args.input.now in
    let laid : Laid c.args.p (take (length i - 7) (drop 7 i)) =
    opened_part i _ (λ i. (c.type_inv.input i).fits) c.requires.input_value in
    record {
      laid = laid;
      index = indexed _ _ laid.placed _ _
          (omega (arith, opened-words i _ (λ i. (c.type_inv.input i).fits) c.requires.input_value)) c.fill.ensures;
    }
