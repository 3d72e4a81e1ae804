use mathlib.Core.Path.{ap, ◌∙◌}
use mathlib.Core.Bool.{not}
use borrow.Author.Tests.{le-ltb}
use Rattle.string_tables.proofs.StringLaws.{not_over, past_pairs, own_number}
use Rattle.string_tables.proofs.is_numbered.Goals as goal

pub returns-then-not-is_full : goal.returns-then-not-is_full
returns-then-not-is_full c =
    ap not c.if-not-is_full.true ∙ not_over _ _ _ _ c.is_full.ensures (ap not c.if-not-is_full.true)

pub returns-then-k-overflows : goal.returns-then-k-overflows
returns-then-k-overflows c =
    rw c.value.ensures.0
    (own_number _ _ _ _ c.is_full.ensures (ap not c.if-not-is_full.false) c.if-k-overflows.true)

pub returns-else-k-overflows : goal.returns-else-k-overflows
returns-else-k-overflows c =
    le-ltb _ _ c.if-k-overflows.false
    ∙ past_pairs _ _ _ _ c.is_full.ensures (ap not c.if-not-is_full.false) c.if-k-overflows.false
