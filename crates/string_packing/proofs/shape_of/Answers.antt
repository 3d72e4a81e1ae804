use Rattle.string_packing.proofs.ShapeLaws.{narrow_value, wide_value}
use Rattle.string_packing.proofs.shape_of.Goals as goal

pub returns-then-ascii : goal.returns-then-ascii
returns-then-ascii c = narrow_value _ _ c.ascii.ensures c.if-ascii.true

pub returns : goal.returns
returns c = wide_value _ _ c.ascii.ensures c.if-ascii.false _ c.count_units.ensures
