-- Values of other lengths differ; those of one length are compared byte by byte.
use mathlib.Core.Path.{ap, sym, ◌∙◌}
use lib.ListN.{length}
use borrow.Author.Tests.{ne_eqb}
use Rattle.footer.proofs.SameLaws.{longer_differs}
use Rattle.po_pairs.proofs.same_values.Goals as goal

pub returns-else-a-b : goal.returns-else-a-b
returns-else-a-b c =
    let b = c.value_at-b.ensures.0 in
    let a = c.value_at-a.ensures.0 in
    ne_eqb _ _ c.if-a-b.false
    ∙ longer_differs _ _ (λ e. c.if-a-b.false (ap length a ∙ e ∙ ap length (sym b)))
