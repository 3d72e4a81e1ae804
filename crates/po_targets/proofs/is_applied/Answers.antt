-- A value is empty where its length is 0: the msgid is asked first, then the msgstr.
use mathlib.Core.Path.{sym, ◌∙◌}
use native.Mathlib.Numerals.{add-one}
use borrow.Author.Tests.{eqb-true, eqb-false}
use Rattle.po_targets.proofs.PairLaws.{header, by_text}
use Rattle.po_targets.proofs.is_applied.Goals as goal

pub returns-then-not-is_empty : goal.returns-then-not-is_empty
returns-then-not-is_empty c =
    rw c.is_empty-then-not-is_empty.ensures
    (by_text _ _ _ c.value_at.ensures.0 _ (rw add-one at c.value_at-then-not-is_empty.ensures.0)
    (eqb-false _ _ (sym c.is_empty.ensures ∙ c.if-not-is_empty.true)))

pub returns-else-not-is_empty : goal.returns-else-not-is_empty
returns-else-not-is_empty c =
    rw c.if-not-is_empty.false
    (header _ _ _ c.value_at.ensures.0 (eqb-true _ _ (sym c.is_empty.ensures ∙ c.if-not-is_empty.false)))
