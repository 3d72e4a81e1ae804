-- A field lies in the low word or in the high one.
use Rattle.std.proofs.Common.{◌≡◌, ◌+◌, ◌-◌, sym, ◌∙◌, arith}
use Rattle.bits.proofs.FieldLaws.{field-low, field-high}
use Rattle.bits.proofs.words_field.Goals as goal

pub returns-then-at-lt64 : goal.returns-then-at-lt64
returns-then-at-lt64 c =
    let a = c.args in
    let l = c.requires.low c.if-at-lt64.true in
    (c.field.ensures.0 ∙ sym (field-low a.w.high a.w.low a.at a.width l), c.field.ensures.1)

pub returns-else-at-lt64 : goal.returns-else-at-lt64
returns-else-at-lt64 c =
    let a = c.args in
    let e : 64 + (a.at - 64) ≡ a.at = omega arith in (
      c.field-else-at-lt64.ensures.0 ∙ sym (rw e at (field-high a.w.high a.w.low (a.at - 64) a.width (omega arith))),
      c.field-else-at-lt64.ensures.1,
    )
