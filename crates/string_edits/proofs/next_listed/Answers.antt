use native.Mathlib.Numerals.{add-one}
use native.Mathlib.Omega.{arith}
use Rattle.string_edits.proofs.ListLaws.{near_none}
use Rattle.string_edits.proofs.ToldLaws.{next_nearest}
use Rattle.string_edits.proofs.next_listed.Goals as goal

pub loop-j-init : goal.loop-j-init
loop-j-init c = near_none c.args.ids.now c.args.from c.requires

pub nearer-best-requires : goal.nearer-best-requires
nearer-best-requires c = (c.loop-j-test.true, c.loop-j.invariant)

pub loop-j-preserved : goal.loop-j-preserved
loop-j-preserved c = rw add-one c.nearer-best.ensures

pub returns : goal.returns
returns c =
    let a = c.args in
    let l = c.loop-j in
    next_nearest a.ids.now a.from l.j l.best (omega arith) l.invariant
