use mathlib.Core.Path.{refl, ◌∙◌}
use Rattle.relocate.specs.Relocate.{function_group}
use Rattle.relocate.proofs.GroupLaws.{groups_none, groups_more}
use Rattle.relocate.proofs.relocate_functions.Goals as goal

pub loop-i-init : goal.loop-i-init
loop-i-init c =
    let a = c.args in
    (refl, groups_none (function_group a.layout a.image.now a.m) a.out.now)

pub loop-i-preserved : goal.loop-i-preserved
loop-i-preserved c =
    let a = c.args in
    let l = c.loop-i in (
      c.relocate_function.auto.out
          ∙ l.invariant.0,
      groups_more (function_group a.layout a.image.now a.m) l.i a.out.now _ _ l.invariant.1
          c.relocate_function.ensures,
    )
