-- By where the reader stands: wrong, between code points, or within one.
use mathlib.Core.Path.{◌∙◌}
use borrow.Author.Tests.{not-true, not-false}
use native.Mathlib.Omega.{arith}
use Rattle.utf.proofs.ReadingLaws.{small-wrong, next_wrong, next_opens, next_on}
use Rattle.utf.proofs.next_byte.Goals as goal

pub returns-then-not-r : goal.returns-then-not-r
returns-then-not-r c = rw c.wrong.ensures (next_wrong c.args.r c.args.b (not-true _ c.if-not-r.true), small-wrong)

pub returns-then-r-eq0 : goal.returns-then-r-eq0
returns-then-r-eq0 c = (
  c.opens.ensures.0 ∙ next_opens c.args.r c.args.b (not-false _ c.if-not-r.false) (omega arith),
  c.opens.ensures.1,
)

pub returns : goal.returns
returns c = (
  c.goes_on.ensures.0 ∙ next_on c.args.r c.args.b (not-false _ c.if-not-r.false) c.if-r-eq0.false,
  c.goes_on.ensures.1,
)
