use mathlib.Core.Path.{◌≡◌, ap, ◌∙◌}
use native.Mathlib.Omega.{arith}
use lib.ListN.{length}
use Rattle.sections.proofs.SectionLaws.{Sectioned, sectioned}
use Rattle.po_write.specs.File.{file_to}
use Rattle.po_write.proofs.FileLaws.{file-none, length_next, file_all}
use Rattle.po_write.proofs.fill.Goals as goal

pub loop-id-init : goal.loop-id-init
loop-id-init c =
    let e = c.first_string-c.ensures in
    let a = c.args in
    let q = c.requires in
    (e.1, e.0 _ _ q.0.placed, q.1, rw (file-none a.p.layout a.image.now), omega arith)

pub string_at-step-requires : goal.string_at-step-requires
string_at-step-requires c =
    record {
      laid = c.requires.0;
      cursor_of = (c.loop-id.invariant.1, omega (arith, c.loop-id.invariant.0, c.loop-id-test.true));
    }

pub take_turn-total-requires : goal.take_turn-total-requires
take_turn-total-requires c =
    record {
      laid = (c.requires.0, c.loop-id-test.true, rw c.loop-id.invariant.0 at c.string_at-step.ensures.string);
      filled = c.loop-id.invariant.2;
    }

pub overflow_add-total : goal.overflow_add-total
overflow_add-total c =
    let z : Sectioned c.args.p c.args.image.now = sectioned _ _ c.requires.0.placed in
    omega (arith, c.take_turn-total.ensures.1, c.loop-id.invariant.4, c.loop-id-test.true)

pub loop-id-preserved : goal.loop-id-preserved
loop-id-preserved c =
    let a = c.args in
    let e = c.string_at-step.ensures in
    let u = c.take_turn-total.ensures in
    let l = c.loop-id in (
      omega (arith, e.id, l.invariant.0),
      e.next,
      u.2,
      omega (arith, u.0, l.invariant.3, length_next a.p.layout a.image.now l.id),
      omega (arith, u.1, l.invariant.4),
    )

pub returns : goal.returns
returns c =
    let a = c.args in
    let l = c.loop-id in
    let k : l.id ≡ a.p.strings = omega (arith, c.loop-id-test.false) in (
      l.invariant.3 ∙ ap length (ap (file_to a.p.layout a.image.now) k ∙ file_all a.p a.image.now
          c.requires.0.placed),
      rw k at l.invariant.2,
    )
