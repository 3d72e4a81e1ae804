-- The plan for all old strings and all new values, each in the overflow table, meets nothing.
use mathlib.Core.Path.{◌∙◌}
use native.Mathlib.Omega.{arith}
use Rattle.sections.proofs.SectionLaws.{sectioned}
use Rattle.string_edits.specs.Told.{told, values_in}
use Rattle.string_edits.specs.declared.Form.TheVariants.{Marks}
use Rattle.string_steps.proofs.SizeLaws.{not_roomy, most_low, most_tail, roomy_is}
use Rattle.string_steps.proofs.is_roomy.Goals as goal

pub returns-then-room-image : goal.returns-then-room-image
returns-then-room-image c =
    let a = c.args in
    not_roomy a.p.layout a.image.now a.room (values_in (told Marks a.marks.now) a.text.now a.ends.now) c.if-room-image.true

pub old_bytes-requires : goal.old_bytes-requires
old_bytes-requires c = c.requires.laid

pub new_bytes-requires : goal.new_bytes-requires
new_bytes-requires c =
    let z = sectioned _ _ c.requires.laid.placed in
    (c.requires.listed, omega (arith, c.requires.many))

pub overflow_add-most : goal.overflow_add-most
overflow_add-most c =
    let q = c.requires in
    let b = most_low _ _ _ _ _ q _ _ c.old_bytes.ensures.0 c.new_bytes.ensures.0 c.old_bytes.ensures.1
    c.new_bytes.ensures.1 in
    omega (arith, b.1)

pub overflow_add-most-2 : goal.overflow_add-most-2
overflow_add-most-2 c =
    let q = c.requires in
    let b = most_low _ _ _ _ _ q _ _ c.old_bytes.ensures.0 c.new_bytes.ensures.0
    c.old_bytes.ensures.1 c.new_bytes.ensures.1 in
    omega (arith, b.1)

pub plan_sizes-plan-requires : goal.plan_sizes-plan-requires
plan_sizes-plan-requires c =
    let q = c.requires in
    record {
      placed = q.laid.placed;
      overflows_le_size_limit = most_low _ _ _ _ _ q _ _ c.old_bytes.ensures.0 c.new_bytes.ensures.0
          c.old_bytes.ensures.1 c.new_bytes.ensures.1;
    }

pub judge-requires : goal.judge-requires
judge-requires c =
    let q = c.requires in
    (q.laid, most_tail _ _ _ _ _ q _ _ c.old_bytes.ensures.0 c.new_bytes.ensures.0 _ c.plan_sizes-plan.ensures)

pub returns : goal.returns
returns c =
    c.is_ok.ensures.value
    ∙ roomy_is _ _ _ _ _ c.requires _ _ c.old_bytes.ensures.0 c.new_bytes.ensures.0 _
    c.plan_sizes-plan.ensures c.args.room (omega (arith, c.if-room-image.false)) _ c.judge.ensures
