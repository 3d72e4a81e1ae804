use native.Mathlib.Omega.{arith}
use Rattle.sections.proofs.SectionLaws.{row-size, record_end}
use Rattle.sections.proofs.record_at.Goals as goal

pub nth_at-requires : goal.nth_at-requires
nth_at-requires c = let r = row-size c.args.layout _ c.record_row-row.ensures in (omega arith, omega arith, r.1)

pub returns : goal.returns
returns c =
    let r = row-size c.args.layout _ c.record_row-row.ensures in
    (record_end c.args.layout _ _ _ c.record_row-row.ensures c.nth_at.ensures.0, omega arith)
