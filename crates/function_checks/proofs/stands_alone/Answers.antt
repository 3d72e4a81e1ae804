use mathlib.Core.Path.{ap}
use mathlib.Core.Bool.{not}
use native.Mathlib.Omega.{arith}
use Rattle.bits.proofs.PassLaws.{pass_none, pass_next}
use Rattle.image.proofs.CheckLaws.{headers_in_lem}
use Rattle.sections.proofs.SectionLaws.{sectioned}
use Rattle.function_checks.proofs.AloneLaws.{alone_is, alone_stop, alone_end}
use Rattle.function_checks.proofs.stands_alone.Goals as goal

pub loop-j-init : goal.loop-j-init
loop-j-init c = pass_none _

pub function_at-g-requires : goal.function_at-g-requires
function_at-g-requires c =
    record {
      readable = (c.requires.laid.placed.fits, (headers_in_lem _ _).passed c.requires.laid.admitted.header);
      i_bound = omega
          (arith, (sectioned c.args.p c.args.image.now c.requires.laid.placed).functions);
    }

pub returns-then-not-leaves_alone : goal.returns-then-not-leaves_alone
returns-then-not-leaves_alone c =
    let a = c.args in
    let z = sectioned a.p a.image.now c.requires.laid.placed in
    alone_stop a.p.layout a.image.now a.id c.loop-j.j _ (omega (arith, z.functions, c.loop-j-test.true))
    (alone_is a.p.layout a.image.now a.id _ _ c.loop-j.j _ c.requires.function_is.is
    c.function_at-g.ensures.0 c.leaves_alone.ensures)
    (ap not c.if-not-leaves_alone.true)

pub loop-j-preserved : goal.loop-j-preserved
loop-j-preserved c =
    let a = c.args in
    let l = c.loop-j in
    pass_next _ l.j _
    (alone_is a.p.layout a.image.now a.id _ _ l.j _ c.requires.function_is.is c.function_at-g.ensures.0
    c.leaves_alone.ensures) (ap not c.if-not-leaves_alone.false) l.invariant

pub returns : goal.returns
returns c =
    let a = c.args in
    let l = c.loop-j in
    alone_end a.p.layout a.image.now a.id l.j _ (sectioned _ _ c.requires.laid.placed).functions (omega arith)
    l.invariant
