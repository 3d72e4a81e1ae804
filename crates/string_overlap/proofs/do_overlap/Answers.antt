-- Two ranges share a byte exactly where each starts before the other ends.
use Prim.Native.Nat.{◌+◌}
use borrow.Author.Tests.{le-ltb}
use Rattle.string_tables.specs.Strings.{as_place}
use Rattle.string_overlap.proofs.OverlapLaws.{behind, before}
use Rattle.string_overlap.proofs.do_overlap.Goals as goal

pub returns-then-a-b : goal.returns-then-a-b
returns-then-a-b c =
    let a = c.args in
    before (as_place a.a) (as_place a.b) _ _ c.size_of.ensures.0 c.if-a-b.true
    c.size_of-then-a-b.ensures.0

pub returns-else-a-b : goal.returns-else-a-b
returns-else-a-b c =
    let a = c.args in
    rw (le-ltb a.a.at (a.b.at + c.size_of.result) c.if-a-b.false)
    (behind (as_place a.a) (as_place a.b) _ 0 c.size_of.ensures.0 c.if-a-b.false)
