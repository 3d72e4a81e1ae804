use Rattle.utf.proofs.UnitLaws.{hash_step_lem}
use Rattle.utf.proofs.hash_step.Goals as goal

pub returns : goal.returns
returns c =
    rw c.xor.ensures
    (hash_step_lem _ _ c.add-a.result c.add-b.result c.add-a.ensures c.add-b.ensures)
