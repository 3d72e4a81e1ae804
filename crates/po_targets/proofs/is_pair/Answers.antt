-- A pair that is not applied fits nothing; of another the units decide.
use mathlib.Core.Path.{ap}
use mathlib.Core.Bool.{not}
use Rattle.po_targets.proofs.PairLaws.{fits_not, fits_by}
use Rattle.po_targets.proofs.is_pair.Goals as goal

pub returns-then-not-is_applied : goal.returns-then-not-is_applied
returns-then-not-is_applied c = fits_not _ _ c.is_applied.ensures _ (ap not c.if-not-is_applied.true)

pub returns : goal.returns
returns c =
    rw (c.has_units.ensures, c.value_at-value.ensures.0)
    (fits_by _ _ c.is_applied.ensures _ (ap not c.if-not-is_applied.false))
