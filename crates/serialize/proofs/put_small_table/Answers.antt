use mathlib.Core.Path.{◌≡◌, refl, ◌∙◌}
use native.Mathlib.Omega.{arith}
use lib.ListN.{length}
use Rattle.serialize.proofs.PartLaws.{small-none, small_more}
use Rattle.serialize.proofs.BuilderLaws.{ascends-at}
use Rattle.serialize.proofs.put_small_table.Goals as goal

pub loop-i-init : goal.loop-i-init
loop-i-init c = (refl, small-none c.args.ends.now c.args.image.now)

pub overflow_sub-len : goal.overflow_sub-len
overflow_sub-len c = omega (arith, ascends-at c.args.ends.now c.loop-i.i c.requires.ends_value c.loop-i-test.true)

pub loop-i-preserved : goal.loop-i-preserved
loop-i-preserved c =
    let s = c.args in
    let l = c.loop-i in (
      c.put_word.auto.s ∙ l.invariant.0,
      c.put_word.ensures
          ∙ small_more s.ends.now s.image.now l.image l.i _ _ l.invariant.1 c.storage_at.ensures
          (rw (c.start_of.ensures.0, c.start_of-start.ensures.0) at c.entry.ensures),
    )

pub shape_of-image : goal.shape_of-image
shape_of-image c = c.loop-i.invariant.0

pub returns : goal.returns
returns c =
    let l = c.loop-i in
    let e : l.i ≡ length c.args.ends.now = omega arith in
    rw e at l.invariant.1
