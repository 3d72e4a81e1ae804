-- One way out for each byte: the definition's tests, each decided by the code's own.
use borrow.Author.Tests.{eq-eqb, ne_eqb}
use Rattle.input_records.specs.Heads.{layout_of}
use Rattle.input_records.proofs.layout_of.Goals as goal

pub returns-then-b-eq0 : goal.returns-then-b-eq0
unfolding layout_of
returns-then-b-eq0 c = rw (eq-eqb c.args.b 0 c.if-b-eq0.true)

pub returns-then-b-eq1 : goal.returns-then-b-eq1
unfolding layout_of
returns-then-b-eq1 c =
    rw (ne_eqb c.args.b 0 c.if-b-eq0.false, eq-eqb c.args.b 1 c.if-b-eq1.true)
    c.legacy.ensures

pub returns-then-b-eq2 : goal.returns-then-b-eq2
unfolding layout_of
returns-then-b-eq2 c =
    rw (
      ne_eqb c.args.b 0 c.if-b-eq0.false,
      ne_eqb c.args.b 1 c.if-b-eq1.false,
      eq-eqb c.args.b 2
          c.if-b-eq2.true,
    )
    c.legacy-then-b-eq2.ensures

pub returns-then-b-eq3 : goal.returns-then-b-eq3
unfolding layout_of
returns-then-b-eq3 c =
    rw (
      ne_eqb c.args.b 0 c.if-b-eq0.false,
      ne_eqb c.args.b 1 c.if-b-eq1.false,
      ne_eqb c.args.b 2
          c.if-b-eq2.false,
      eq-eqb c.args.b 3 c.if-b-eq3.true,
    )
    c.legacy-then-b-eq3.ensures

pub returns : goal.returns
unfolding layout_of
returns c =
    rw (
      ne_eqb c.args.b 0 c.if-b-eq0.false,
      ne_eqb c.args.b 1 c.if-b-eq1.false,
      ne_eqb c.args.b 2
          c.if-b-eq2.false,
      ne_eqb c.args.b 3 c.if-b-eq3.false,
    )
    c.legacy-2.ensures
