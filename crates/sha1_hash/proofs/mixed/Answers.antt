use native.Mathlib.Omega.{arith}
use borrow.Author.Tests.{ne_eqb}
use Rattle.sha1_hash.specs.Functions.{f_in}
use Rattle.sha1_hash.proofs.mixed.Goals as goal

pub returns-in-0 : goal.returns-in-0
unfolding f_in
returns-in-0 c = rw c.in-0.is c.choose.ensures

pub returns-in-2 : goal.returns-in-2
unfolding f_in
returns-in-2 c = rw c.in-2.is c.most.ensures

pub returns-in_default : goal.returns-in_default
unfolding f_in
returns-in_default c =
    let q = c.args.quarter in
    rw (ne_eqb q 0 (λ e. omega arith), ne_eqb q 2 (λ e. omega arith)) c.odd.ensures
