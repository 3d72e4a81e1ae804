-- Three ways out: no such id, too few words, or what the runs hold.
use Rattle.string_index.proofs.IndexLaws.{no_such, too_short, found, long_enough}
use Rattle.string_index.proofs.look_up.Goals as goal

pub returns-then-count-id : goal.returns-then-count-id
returns-then-count-id c = no_such _ _ _ c.if-count-id.true

pub returns-then-is_short : goal.returns-then-is_short
returns-then-is_short c = too_short _ _ _ c.if-count-id.false _ c.is_short.ensures c.if-is_short.true

pub entry_at-requires : goal.entry_at-requires
entry_at-requires c = (long_enough _ _ _ c.is_short.ensures c.if-is_short.false, c.if-count-id.false)

pub returns : goal.returns
returns c =
    found _ _ _ c.if-count-id.false _ c.is_short.ensures c.if-is_short.false _
    c.entry_at.ensures
