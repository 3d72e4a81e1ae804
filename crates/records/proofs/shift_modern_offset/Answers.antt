-- The sum is the definition's; where it fits, the field holds it.
use mathlib.Core.Path.{◌≡◌, sym, ◌∙◌}
use mir.Facts.{to_z-of_z}
use borrow.Author.Rules.{rules}
use Rattle.bits.specs.Words.{whole}
use Rattle.format.specs.Table.{modern_offset}
use Rattle.records.specs.Records.{field_sum, shift_small}
use Rattle.records.proofs.SumLaws.{sum_lt}
use Rattle.records.proofs.shift_modern_offset.Goals as goal
use Rattle.records.proofs.shift_modern_offset.Goals.{After-field_sum}

sum_is : (c : After-field_sum) → let a = c.args in
    c.field_sum.result ≡ field_sum modern_offset a.delta (whole a.w)
sum_is c = c.field_sum.ensures ∙ rw (to_z-of_z c.ranges.delta)

pub returns-in_err-offset : goal.returns-in_err-offset
unfolding shift_small
returns-in_err-offset c = rw (← sum_is (goal.at.returns-in_err-offset c).After-field_sum, c.in_err-offset.was, c.from_residual.ensures)

pub with_exact-requires : goal.with_exact-requires
with_exact-requires c =
    let a = c.args in
    record {
      k_value = search rules;
      v_bound = sum_lt modern_offset.width a.delta _ _ (sym (sum_is (goal.at.with_exact-requires c).After-field_sum) ∙ c.in_ok-offset.was);
    }

pub returns : goal.returns
unfolding shift_small
returns c = rw (← sum_is (goal.at.returns c).After-field_sum, c.in_ok-offset.was, c.with_exact.ensures.0)
