use mathlib.Core.Path.{◌∙◌}
use borrow.Author.Tests.{ne_eqb}
use lib.ListN.{length}
use Rattle.string_edits.proofs.ListLaws.{no_list, the_list}
use Rattle.string_edits.proofs.is_list.Goals as goal

pub returns-then-ends-ids : goal.returns-then-ends-ids
returns-then-ends-ids c =
    let a = c.args in
    c.is_split.ensures ∙ the_list a.ids.now a.text.now a.ends.now c.if-ends-ids.true

pub returns-else-ends-ids : goal.returns-else-ends-ids
returns-else-ends-ids c =
    let a = c.args in
    rw (ne_eqb (length a.ends.now) (length a.ids.now) c.if-ends-ids.false)
    (no_list a.ids.now a.text.now a.ends.now c.if-ends-ids.false)
