use native.Mathlib.Omega.{arith}
use Rattle.sections.proofs.SectionLaws.{sectioned}
use Rattle.string_rebuild.proofs.JudgeLaws.{low_sum, plan_is}
use Rattle.string_rebuild.proofs.plan_sizes.Goals as goal

pub new_tail-tail-requires : goal.new_tail-tail-requires
new_tail-tail-requires c =
    let z = sectioned c.args.p c.args.image.now c.requires.placed in
    (omega arith, c.requires.overflows_le_size_limit.0, c.requires.overflows_le_size_limit.1)

pub overflow_sub-length : goal.overflow_sub-length
overflow_sub-length c =
    let z = sectioned c.args.p c.args.image.now c.requires.placed in
    omega arith

pub overflow_add-length : goal.overflow_add-length
overflow_add-length c =
    let b = low_sum _ _ c.requires.placed _ c.requires.overflows_le_size_limit.0 c.requires.overflows_le_size_limit.1 _
    c.new_tail-tail.ensures in
    omega arith

pub returns : goal.returns
returns c = plan_is _ _ _ _ c.new_tail-tail.ensures
