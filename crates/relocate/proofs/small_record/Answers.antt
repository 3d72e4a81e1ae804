-- By the layout: each field is put in the record that the one before has left, and can hold it.
use Rattle.function_table.specs.Functions.{as_func}
use Rattle.bits.specs.Words.{whole}
use Rattle.relocate.proofs.FunctionLaws.{small_modern, small_legacy}
use Rattle.relocate.proofs.small_record.Goals as goal

pub returns-in-Modern : goal.returns-in-Modern
returns-in-Modern c =
    let a = c.args in
    small_modern a.layout (as_func a.f) (whole a.words) c.in-Modern.is _ _
    c.with_exact-placed.ensures.0 c.with_exact.ensures.0

pub returns-in-Legacy : goal.returns-in-Legacy
returns-in-Legacy c =
    let a = c.args in
    small_legacy a.layout (as_func a.f) (whole a.words) _ _ c.in-Legacy.is _ _ _
    (record {
      begin = c.with_exact-placed-in-Legacy.ensures.0;
      size = c.with_exact-sized.ensures.0;
      info = c.with_exact-in-Legacy.ensures.0;
    })
