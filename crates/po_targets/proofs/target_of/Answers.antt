-- An identifier gets nothing, any other string its pair.
use mathlib.Core.Path.{◌∙◌}
use native.Mathlib.Omega.{arith}
use Rattle.po_targets.proofs.PairLaws.{identifier_by, target_identifier, target_plain}
use Rattle.po_targets.proofs.target_of.Goals as goal

pub returns-then-is_identifier : goal.returns-then-is_identifier
returns-then-is_identifier c =
    let q = c.requires.placed in
    (target_identifier _ _ _ _ _ _ (identifier_by _ _ _ _ q.1 _ c.is_identifier.ensures ∙ c.if-is_identifier.true), omega arith)

pub returns : goal.returns
returns c =
    let q = c.requires.placed in
    let e = c.find_pair.ensures in (
      e.0 ∙ target_plain _ _ _ _ _ _ (identifier_by _ _ _ _ q.1 _ c.is_identifier.ensures ∙ c.if-is_identifier.false),
      e.1,
    )
