use mathlib.Core.Path.{ap}
use mathlib.Core.Bool.{not}
use native.Mathlib.Omega.{arith}
use Rattle.bits.proofs.PassLaws.{pass_none, pass_next}
use Rattle.format.specs.Move.{moved}
use Rattle.image.proofs.CheckLaws.{headers_in_lem}
use Rattle.sections.proofs.SectionLaws.{sectioned}
use Rattle.moved_fields.proofs.FitLaws.{fit_is, fields_stop, fields_end}
use Rattle.moved_fields.proofs.fields_fit.Goals as goal

pub loop-i-init : goal.loop-i-init
loop-i-init c = pass_none _

pub function_at-f-requires : goal.function_at-f-requires
function_at-f-requires c =
    record {
      readable = (c.requires.laid.placed.fits, (headers_in_lem _ _).passed c.requires.laid.admitted.header);
      i_bound = omega
          (arith, (sectioned c.args.p c.args.image.now c.requires.laid.placed).functions);
    }

pub returns-then-not-does_fit : goal.returns-then-not-does_fit
returns-then-not-does_fit c =
    let a = c.args in
    fields_stop a.p.layout a.image.now (moved a.from a.to) c.loop-i.i _
    (omega (arith, (sectioned _ _ c.requires.laid.placed).functions, c.loop-i-test.true))
    (fit_is a.p.layout a.image.now (moved a.from a.to) c.loop-i.i c.offset_field-offset.result _ _
    c.offset_field-offset.ensures.0 c.function_at-f.ensures.0 c.does_fit.ensures)
    (ap not c.if-not-does_fit.true)

pub loop-i-preserved : goal.loop-i-preserved
loop-i-preserved c =
    let a = c.args in
    let l = c.loop-i in
    pass_next _ l.i _
    (fit_is a.p.layout a.image.now (moved a.from a.to) l.i c.offset_field-offset.result _ _
    c.offset_field-offset.ensures.0 c.function_at-f.ensures.0 c.does_fit.ensures)
    (ap not c.if-not-does_fit.false) l.invariant

pub returns : goal.returns
returns c =
    let a = c.args in
    let l = c.loop-i in
    fields_end a.p.layout a.image.now (moved a.from a.to) l.i _ (sectioned _ _ c.requires.laid.placed).functions
    (omega arith) l.invariant
