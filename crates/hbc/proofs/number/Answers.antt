use Rattle.std.proofs.Common.{◌∙◌}
use Rattle.hbc.proofs.NumberLaws.{refused_number}
use Rattle.hbc.proofs.number.Goals as goal

pub returns-in-Err : goal.returns-in-Err
returns-in-Err c = refused_number _ _ _ c.in-Err.is (c.wide.ensures.0 ∙ c.number.ensures)
