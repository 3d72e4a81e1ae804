-- The tests are those of the definition, in its order: each that failed before the one that held.
use mathlib.Core.Path.{sym, ◌∙◌}
use Rattle.po_lines.specs.Kinds.{marked_as}
use Rattle.po_lines.proofs.marked_as.Goals as goal
use Rattle.po_lines.proofs.marked_as.Goals.{then-is_empty-via-then-is_empty, then-is_empty-via-else-is_empty+then-begins}

pub returns-then-is_empty : goal.returns-then-is_empty
unfolding marked_as
returns-then-is_empty c =
    elim c.then-is_empty.branch [
      | then-is_empty-via-then-is_empty w ↦ rw (sym c.is_empty.ensures ∙ w.if-is_empty.true)
      | then-is_empty-via-else-is_empty+then-begins w ↦
          rw (sym c.is_empty.ensures ∙ w.if-is_empty.false, ← w.begins.ensures, w.if-begins.true)
    ]

pub returns-then-begins-2 : goal.returns-then-begins-2
unfolding marked_as
returns-then-begins-2 c =
    rw (
      sym c.is_empty.ensures ∙ c.if-is_empty.false,
      ← c.begins.ensures,
      c.if-begins.false,
      ← c.begins-2.ensures,
      c.if-begins-2.true,
    )

pub returns-then-begins-3 : goal.returns-then-begins-3
unfolding marked_as
returns-then-begins-3 c =
    rw (
      sym c.is_empty.ensures ∙ c.if-is_empty.false,
      ← c.begins.ensures,
      c.if-begins.false,
      ← c.begins-2.ensures,
      c.if-begins-2.false,
      ← c.begins-3.ensures,
      c.if-begins-3.true,
    )

pub returns-then-begins-4 : goal.returns-then-begins-4
unfolding marked_as
returns-then-begins-4 c =
    rw (
      sym c.is_empty.ensures ∙ c.if-is_empty.false,
      ← c.begins.ensures,
      c.if-begins.false,
      ← c.begins-2.ensures,
      c.if-begins-2.false,
      ← c.begins-3.ensures,
      c.if-begins-3.false,
      ← c.begins-4.ensures,
      c.if-begins-4.true,
    )

pub returns : goal.returns
unfolding marked_as
returns c =
    rw (
      sym c.is_empty.ensures ∙ c.if-is_empty.false,
      ← c.begins.ensures,
      c.if-begins.false,
      ← c.begins-2.ensures,
      c.if-begins-2.false,
      ← c.begins-3.ensures,
      c.if-begins-3.false,
      ← c.begins-4.ensures,
      c.if-begins-4.false,
    )
