use mathlib.Core.Path.{◌∙◌}
use native.Mathlib.Omega.{arith}
use borrow.Author.Tests.{le-leb}
use Rattle.string_packing.proofs.ShapeLaws.{over_far, over_near}
use Rattle.string_tables.specs.Strings.{as_place}
use Rattle.string_packing.proofs.is_over.Goals as goal

pub returns-then-place-ge-FAR : goal.returns-then-place-ge-FAR
returns-then-place-ge-FAR c =
    le-leb 0x800000 c.args.place.at c.if-place-ge-FAR.true ∙ over_far (as_place c.args.place) c.if-place-ge-FAR.true

pub returns-else-place-ge-FAR : goal.returns-else-place-ge-FAR
returns-else-place-ge-FAR c = over_near (as_place c.args.place) (omega arith)
