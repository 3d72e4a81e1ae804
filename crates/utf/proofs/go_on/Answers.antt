-- Within a code point, or after a wrong byte, the next byte counts; between two, ASCII bytes do not.
use borrow.Author.Tests.{not-false}
use Rattle.utf.proofs.PieceLaws.{goes_still, goes_skipped}
use Rattle.utf.proofs.go_on.Goals as goal

pub returns-then-not-r : goal.returns-then-not-r
returns-then-not-r c = goes_still c.args.value.now c.args.from c.args.r c.requires

pub returns : goal.returns
returns c =
    let a = c.args in
    goes_skipped a.value.now a.from _ a.r (not-false a.r.ok c.if-not-r.false) c.if-r-ne0.false c.past_ascii.ensures
