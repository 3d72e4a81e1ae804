-- The sum is the definition's; where it fits, the pointer is that.
use mathlib.Core.Path.{◌≡◌, sym, ◌∙◌}
use mathlib.Core.Bool.{false}
use Rattle.format.specs.declared.Layout.TheVariants.{Legacy}
use mir.Facts.{to_z-of_z}
use Rattle.bits.specs.Words.{whole}
use Rattle.format.specs.Record.{pointer}
use Rattle.records.specs.Sum.{summed, word_bits}
use Rattle.records.specs.Records.{shift_pointer}
use Rattle.records.proofs.SumLaws.{sum_lt}
use Rattle.records.proofs.shift_legacy_pointer.Goals as goal
use Rattle.records.proofs.shift_legacy_pointer.Goals.{After-add_delta}

sum_is : (c : After-add_delta) → let a = c.args in
    c.add_delta.result ≡ summed word_bits a.delta (pointer (Legacy false false) (whole a.w))
sum_is c = c.add_delta.ensures ∙ rw (c.legacy_pointer.ensures.0, to_z-of_z c.ranges.delta)

pub returns-in_err-pointer : goal.returns-in_err-pointer
unfolding shift_pointer
returns-in_err-pointer c = rw (← sum_is (goal.at.returns-in_err-pointer c).After-add_delta, c.in_err-pointer.was, c.from_residual.ensures)

pub with_legacy_pointer-requires : goal.with_legacy_pointer-requires
with_legacy_pointer-requires c =
    let a = c.args in
    sum_lt word_bits a.delta _ _ (sym (sum_is (goal.at.with_legacy_pointer-requires c).After-add_delta) ∙ c.in_ok-pointer.was)

pub returns : goal.returns
unfolding shift_pointer
returns c = rw (← sum_is (goal.at.returns c).After-add_delta, c.in_ok-pointer.was, c.with_legacy_pointer.ensures.0)
