use Rattle.format.proofs.EntryLaws.{entry-is}
use Rattle.format.proofs.entry.Goals as goal

pub returns : goal.returns
returns c =
    let a = c.args in
    entry-is a.wide a.offset a.len _ _ _ _
    (record {
      counted = c.if_set.ensures.0;
      kind = c.with_value-widened.ensures;
      place = c.with_value-offset_put.ensures;
      count = c.with_value.ensures;
    })
