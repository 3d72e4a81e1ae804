use Rattle.bits.specs.Words.{whole}
use Rattle.relocate.proofs.FunctionLaws.{pointer_legacy}
use Rattle.relocate.proofs.with_pointer.Goals as goal

pub returns-in-Legacy : goal.returns-in-Legacy
returns-in-Legacy c =
    let a = c.args in
    pointer_legacy a.layout a.ptr (whole a.words) _ _ c.in-Legacy.is _ c.with_legacy_pointer.ensures.0
