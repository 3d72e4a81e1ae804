use mathlib.Core.Path.{◌∙◌}
use native.Mathlib.Nat.{mod-eq_of_lt}
use Rattle.format.specs.Table.{row_of}
use Rattle.format.proofs.RecordLaws.{value-put}
use Rattle.records.proofs.with_exact.Goals as goal

pub returns : goal.returns
returns c =
    let e = c.with_value.ensures in
    (e, rw e (value-put (row_of c.args.k) c.args.v _ ∙ mod-eq_of_lt c.requires.v_bound))
