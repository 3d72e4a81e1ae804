-- The words behind the chains are zeros before the pass; after it flags and marks are those of all strings.
use mathlib.Core.Path.{◌∙◌}
use Rattle.po_targets.proofs.MarkLaws.{looked_none, looked_found, looked_marks}
use Rattle.po_targets.proofs.mark.Goals as goal

pub mark_strings-requires : goal.mark_strings-requires
mark_strings-requires c =
    let q = c.requires in
    record {
      laid = q.laid;
      looked = looked_none _ _ _ _ _ _ _ _ q.entered.0 q.entered.1 c.clear.ensures;
    }

pub returns : goal.returns
returns c =
    let q = c.requires in
    let g = c.mark_strings.ensures in
    record {
      value = c.are_found.ensures ∙ looked_found _ _ _ _ _ _ _ g q.laid.placed q.different;
      by_index = looked_marks _ _ _ _ _ _ _ g;
    }
