use Rattle.bits.proofs.OutcomeLaws.{told_short, told-fits}
use Rattle.facts.proofs.told.Goals as goal

pub returns-then-out-numbers : goal.returns-then-out-numbers
returns-then-out-numbers c =
    let a = c.args in
    told_short a.numbers.now a.out.now c.if-out-numbers.true

pub returns : goal.returns
returns c =
    let a = c.args in
    told-fits a.numbers.now a.out.now _ c.if-out-numbers.false c.put_numbers.ensures
