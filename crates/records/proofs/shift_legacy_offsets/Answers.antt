-- The two sums are the definition's; where both fit, the fields hold them.
use mathlib.Core.Path.{◌≡◌, sym, ◌∙◌}
use mir.Facts.{to_z-of_z}
use borrow.Author.Rules.{rules}
use Rattle.bits.specs.Words.{whole}
use Rattle.format.specs.Table.{legacy_offset}
use Rattle.records.specs.Records.{field_sum, info_sum, shift_small}
use Rattle.records.proofs.SumLaws.{sum_lt, info_lt}
use Rattle.records.proofs.shift_legacy_offsets.Goals as goal
use Rattle.records.proofs.shift_legacy_offsets.Goals.{After-field_sum, After-info_sum}

offset-is : (c : After-field_sum) → let a = c.args in
    c.field_sum.result ≡ field_sum legacy_offset a.delta (whole a.w)
offset-is c = c.field_sum.ensures ∙ rw (to_z-of_z c.ranges.delta)

info-is : (c : After-info_sum) → let a = c.args in
    c.info_sum.result ≡ info_sum a.delta (whole a.w)
info-is c = c.info_sum.ensures ∙ rw (to_z-of_z c.ranges.delta)

pub returns-in_err-offset : goal.returns-in_err-offset
unfolding shift_small
returns-in_err-offset c = rw (← offset-is (goal.at.returns-in_err-offset c).After-field_sum, c.in_err-offset.was, c.from_residual.ensures)

pub with_exact-placed-requires : goal.with_exact-placed-requires
with_exact-placed-requires c =
    let a = c.args in
    record {
      k_value = search rules;
      v_bound = sum_lt legacy_offset.width a.delta _ _
          (sym (offset-is (goal.at.with_exact-placed-requires c).After-field_sum) ∙ c.in_ok-offset.was);
    }

pub returns-in_default : goal.returns-in_default
unfolding shift_small
returns-in_default c =
    rw (
      ← offset-is (goal.at.returns-in_default c).After-field_sum,
      c.in_ok-offset.was,
      ← info-is (goal.at.returns-in_default c).After-info_sum,
      c.in_default.is,
    )

pub with_exact-requires : goal.with_exact-requires
with_exact-requires c =
    let a = c.args in
    record {
      k_value = search rules;
      v_bound = info_lt a.delta _ _ (sym (info-is (goal.at.with_exact-requires c).After-info_sum) ∙ c.in-Some.is);
    }

pub returns : goal.returns
unfolding shift_small
returns c =
    rw (
      ← offset-is (goal.at.returns c).After-field_sum,
      c.in_ok-offset.was,
      ← info-is (goal.at.returns c).After-info_sum,
      c.in-Some.is,
      c.with_exact.ensures.0,
      c.with_exact-placed.ensures.0,
    )
