use Rattle.string_rebuild.proofs.JudgeLaws.{measured_low, planned}
use Rattle.string_rebuild.proofs.plan_rebuild.Goals as goal

pub plan_sizes-requires : goal.plan_sizes-requires
plan_sizes-requires c =
    let placed = c.requires.0.placed in
    record {
      placed = placed;
      overflows_le_size_limit = measured_low _ _ _ _ _ placed c.measure-sizes.ensures;
    }

pub returns : goal.returns
returns c = planned _ _ _ _ _ c.measure-sizes.ensures _ c.plan_sizes.ensures
