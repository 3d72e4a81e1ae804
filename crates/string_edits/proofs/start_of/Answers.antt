use mathlib.Core.Path.{◌∙◌}
use native.Mathlib.Omega.{arith}
use Rattle.string_edits.proofs.ListLaws.{start_first, start_later}
use Rattle.string_edits.proofs.start_of.Goals as goal

pub returns-then-j-eq0 : goal.returns-then-j-eq0
returns-then-j-eq0 c = let a = c.args in (start_first a.ends.now a.j c.if-j-eq0.true, omega arith)

pub returns : goal.returns
returns c =
    let a = c.args in
    let e = c.wide.ensures in
    (e.0 ∙ start_later a.ends.now a.j c.if-j-eq0.false, e.1)
