use native.Mathlib.Omega.{arith}
use Rattle.string_edits.specs.Told.{told, values_in}
use Rattle.string_edits.specs.declared.Form.TheVariants.{Marks}
use Rattle.string_steps.proofs.SizeLaws.{sum_none, sum_end, new_next}
use Rattle.string_steps.proofs.new_bytes.Goals as goal

pub loop-mark-init : goal.loop-mark-init
loop-mark-init c = (sum_none _, omega arith)

pub marked_bytes-sum-requires : goal.marked_bytes-sum-requires
marked_bytes-sum-requires c = λ j e. c.requires.0.within c.loop-mark.mark-index j (c.loop-mark-test.true, e)

pub overflow_add-sum : goal.overflow_add-sum
overflow_add-sum c = omega (arith, c.marked_bytes-sum.ensures.1, c.loop-mark.invariant.1, c.loop-mark-test.true, c.requires.1)

pub loop-mark-preserved : goal.loop-mark-preserved
loop-mark-preserved c =
    let a = c.args in
    let e = c.marked_bytes-sum.ensures in (
      new_next (values_in (told Marks a.marks.now) a.text.now a.ends.now) _ _ _ e.0 c.loop-mark.invariant.0,
      omega (arith, e.1, c.loop-mark.invariant.1),
    )

pub returns : goal.returns
returns c =
    let v = c.loop-mark.invariant in
    sum_end _ _ _ _ _ (omega arith) v.0 v.1
