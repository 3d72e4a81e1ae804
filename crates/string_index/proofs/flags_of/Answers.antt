use Rattle.string_index.proofs.IndexLaws.{flags_sum}
use Rattle.string_index.proofs.flags_of.Goals as goal

pub returns : goal.returns
returns c =
    let a = c.args in
    flags_sum a.wide a.identifier _ _ c.if_set.ensures.0 c.if_set-2.ensures.0
