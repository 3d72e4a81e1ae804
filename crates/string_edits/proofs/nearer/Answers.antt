use native.Mathlib.Omega.{arith}
use Rattle.string_edits.proofs.ListLaws.{near_skip, near_keep, near_take}
use Rattle.string_edits.proofs.nearer.Goals as goal
use Rattle.string_edits.proofs.nearer.Goals.{then-id-from-via-then-id-from, then-id-from-via-else-id-from+then-best-id}

pub returns-then-id-from : goal.returns-then-id-from
returns-then-id-from c =
    let a = c.args in
    elim c.then-id-from.branch [
      | then-id-from-via-then-id-from w ↦ near_skip a.ids.now a.from a.j a.best c.requires.1
          (omega (arith, w.if-id-from.true, c.wide-id.ensures.0))
      | then-id-from-via-else-id-from+then-best-id w ↦ near_keep a.ids.now a.from a.j a.best c.requires.1
          (omega (arith, w.if-best-id.true, c.wide-id.ensures.0))
    ]

pub returns : goal.returns
returns c =
    let a = c.args in
    near_take a.ids.now a.from a.j a.best c.requires.1 c.requires.0 _ c.wide-id.ensures.0
    (omega (arith, c.if-id-from.false)) (omega (arith, c.if-best-id.false))
