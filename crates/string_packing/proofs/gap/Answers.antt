use Rattle.string_packing.proofs.ShapeLaws.{gap_even}
use Rattle.string_packing.proofs.gap.Goals as goal

pub returns-in-Even : goal.returns-in-Even
returns-in-Even c =
    let a = c.args in
    gap_even a.mode a.wide a.at _ c.in-Even.is c.if_set.ensures.0
