use native.Mathlib.Omega.{arith}
use borrow.Author.Tests.{not-false}
use Rattle.string_walk.proofs.RunLaws.{plain_run, identifier_run_lem}
use Rattle.string_walk.proofs.rank_in.Goals as goal

pub returns-then-not-run : goal.returns-then-not-run
returns-then-not-run c = plain_run c.args.run c.args.id c.if-not-run.true

pub overflow_sub-result-2 : goal.overflow_sub-result-2
overflow_sub-result-2 c = omega (arith, c.requires.id_bound (not-false _ c.if-not-run.false))

pub returns : goal.returns
returns c =
    let a = c.args in
    identifier_run_lem a.run a.id c.if-not-run.false
