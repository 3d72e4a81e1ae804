-- The text from one end place to the next.
use native.Mathlib.Numerals.{add-one}
use native.Mathlib.Omega.{arith}
use Rattle.string_edits.proofs.ListLaws.{value_part, length-value}
use Rattle.string_edits.proofs.value_at.Goals as goal

pub start_of-requires : goal.start_of-requires
start_of-requires c = omega (arith, c.requires.known)

pub start_of-requires-2 : goal.start_of-requires-2
start_of-requires-2 c = omega (arith, c.requires.known)

pub slice_bounds-result-count : goal.slice_bounds-result-count
slice_bounds-result-count c =
    let q = c.requires in
    omega (arith, q.rising, c.start_of.ensures.0, rw add-one at c.start_of-2.ensures.0)

pub slice_bounds-result-start : goal.slice_bounds-result-start
slice_bounds-result-start c =
    let q = c.requires in
    omega (arith, q.rising, q.end, c.start_of.ensures.0, rw add-one at c.start_of-2.ensures.0)

pub slice_bounds-result-end : goal.slice_bounds-result-end
slice_bounds-result-end c =
    let q = c.requires in
    omega (arith, q.rising, q.end, c.start_of.ensures.0, rw add-one at c.start_of-2.ensures.0)

pub returns : goal.returns
returns c =
    let a = c.args in
    let end = rw add-one at c.start_of-2.ensures.0 in
    let is = value_part a.text.now a.ends.now a.j _ _ c.requires c.start_of.ensures.0 end in
    (is, rw is (omega (arith, length-value a.text.now a.ends.now a.j, end, c.start_of-2.ensures.1)))
