-- By where the reader stands: wrong, within a code point, or behind one of one or two units.
use borrow.Author.Tests.{not-false}
use native.Mathlib.Omega.{arith}
use Rattle.utf.proofs.ReadingLaws.{completes_one, completes_two}
use Rattle.utf.proofs.completed.Goals as goal

pub returns-then-r-lt65536 : goal.returns-then-r-lt65536
returns-then-r-lt65536 c = completes_one c.args.r (not-false _ c.if-not-r.false) (omega arith) (omega arith)

pub returns : goal.returns
returns c = completes_two c.args.r (not-false _ c.if-not-r.false) (omega arith) (omega arith)
