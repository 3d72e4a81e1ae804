use mathlib.Core.Path.{ap}
use mathlib.Core.Bool.{not}
use native.Mathlib.Omega.{arith}
use Rattle.bits.proofs.PassLaws.{pass_none, pass_next}
use Rattle.sections.proofs.SectionLaws.{sectioned}
use Rattle.function_table.proofs.TailLaws.{function_fails, functions_end}
use Rattle.function_table.proofs.are_functions_in_tail.Goals as goal

pub loop-i-init : goal.loop-i-init
loop-i-init c = pass_none _

pub is_function_in_tail-requires : goal.is_function_in_tail-requires
is_function_in_tail-requires c =
    record {
      placed = c.requires;
      i_bound = omega (arith, (sectioned c.args.p c.args.image.now c.requires).functions);
    }

pub returns-then-not-is_function_in_tail : goal.returns-then-not-is_function_in_tail
returns-then-not-is_function_in_tail c =
    let z = sectioned c.args.p c.args.image.now c.requires in
    function_fails _ _ c.loop-i.i _ (omega (arith, z.functions, c.loop-i-test.true))
    c.is_function_in_tail.ensures (ap not c.if-not-is_function_in_tail.true)

pub loop-i-preserved : goal.loop-i-preserved
loop-i-preserved c =
    let l = c.loop-i in
    pass_next _ l.i _ c.is_function_in_tail.ensures (ap not c.if-not-is_function_in_tail.false) l.invariant

pub returns : goal.returns
returns c =
    let l = c.loop-i in
    functions_end _ _ l.i _ (sectioned _ _ c.requires).functions (omega arith) l.invariant
