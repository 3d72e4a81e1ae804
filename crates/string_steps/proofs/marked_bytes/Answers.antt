use mathlib.Core.Path.{◌∙◌}
use native.Mathlib.Omega.{arith}
use Rattle.string_packing.proofs.PassLaws.{shape_small}
use Rattle.string_steps.proofs.SizeLaws.{marked-size}
use Rattle.string_steps.proofs.marked_bytes.Goals as goal

pub value_of-requires : goal.value_of-requires
value_of-requires c = λ h. c.requires _ (omega (arith, c.if-mark-eq0.false))

pub size_of-requires : goal.size_of-requires
size_of-requires c = shape_small _ _ c.shape_of-shape.ensures c.value_of.ensures.1

pub returns : goal.returns
returns c =
    let a = c.args in
    let small = shape_small _ _ c.shape_of-shape.ensures c.value_of.ensures.1 in (
      c.size_of.ensures.0
          ∙ marked-size a.text.now a.ends.now a.mark c.if-mark-eq0.false _ c.value_of.ensures.0 _
          c.shape_of-shape.ensures,
      omega (arith, c.size_of.ensures.2),
    )
