use mathlib.Core.Path.{sym}
use native.Mathlib.Numerals.{add-one}
use native.Mathlib.Omega.{arith}
use Rattle.bits.proofs.TestLaws.{all_fails}
use Rattle.bits.proofs.PassLaws.{pass_none, pass_more, pass_end}
use Rattle.string_edits.proofs.ListLaws.{splits, falls, passes, stands}
use Rattle.string_edits.proofs.is_split.Goals as goal
use Rattle.string_edits.proofs.is_split.Goals.{then-end-start_of-via-then-end-start_of}
use Rattle.string_edits.proofs.is_split.Goals.{then-end-start_of-via-else-end-start_of+then-text-end}

pub loop-j-init : goal.loop-j-init
loop-j-init c = let a = c.args in pass_none (splits a.text.now a.ends.now)

pub returns-then-end-start_of : goal.returns-then-end-start_of
returns-then-end-start_of c =
    let a = c.args in
    let end = rw add-one at c.start_of-end.ensures.0 in
    sym (all_fails (splits a.text.now a.ends.now) _ c.loop-j.j c.loop-j-test.true
    (elim c.then-end-start_of.branch [
      | then-end-start_of-via-then-end-start_of w ↦ falls a.text.now a.ends.now c.loop-j.j
          (omega (arith, w.if-end-start_of.true, c.start_of.ensures.0, end))
      | then-end-start_of-via-else-end-start_of+then-text-end w ↦ passes a.text.now a.ends.now c.loop-j.j
          (omega (arith, w.if-text-end.true, end))
    ]))

pub loop-j-preserved : goal.loop-j-preserved
loop-j-preserved c =
    let a = c.args in
    let end = rw add-one at c.start_of-end.ensures.0 in
    pass_more (splits a.text.now a.ends.now) c.loop-j.j
    (stands a.text.now a.ends.now c.loop-j.j
    (omega (arith, c.if-end-start_of.false, c.start_of.ensures.0, end)) (omega (arith, c.if-text-end.false, end)))
    c.loop-j.invariant

pub returns : goal.returns
returns c =
    let a = c.args in
    pass_end (splits a.text.now a.ends.now) _ _ (omega arith) c.loop-j.invariant
