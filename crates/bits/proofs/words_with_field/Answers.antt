-- A field lies in the low word or in the high one; the other word stays.
use Rattle.std.proofs.Common.{◌≡◌, ◌+◌, ◌-◌, arith}
use Rattle.bits.proofs.FieldLaws.{with_low, with_high}
use Rattle.bits.proofs.words_with_field.Goals as goal

pub returns-then-at-lt64 : goal.returns-then-at-lt64
returns-then-at-lt64 c =
    let a = c.args in
    let l = c.requires.low c.if-at-lt64.true in
    rw (with_low a.w.high a.w.low a.at a.width a.v l, c.with_field.ensures)

pub returns-else-at-lt64 : goal.returns-else-at-lt64
returns-else-at-lt64 c =
    let a = c.args in
    let e : 64 + (a.at - 64) ≡ a.at = omega arith in
    rw (rw e at (with_high a.w.high a.w.low (a.at - 64) a.width a.v (omega arith)), c.with_field-else-at-lt64.ensures)
