use Rattle.po_strings.proofs.UnitLaws.{unit_inside}
use Rattle.po_strings.proofs.unit_of.Goals as goal

pub unit_at-requires : goal.unit_at-requires
unit_at-requires c = let a = c.args in let q = c.requires in unit_inside a.image.now a.t a.i q.0 q.1
