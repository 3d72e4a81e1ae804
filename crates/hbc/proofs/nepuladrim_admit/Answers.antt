use native.Mathlib.Omega.{arith}
use Rattle.hbc.proofs.NumberLaws.{no_layout, layout_laid, layout_refused}
use Rattle.hbc.proofs.nepuladrim_admit.Goals as goal

pub returns-then-layout-gt-LAST_LAYOUT : goal.returns-then-layout-gt-LAST_LAYOUT
returns-then-layout-gt-LAST_LAYOUT c = rw c.number.ensures (no_layout _ _ (omega arith))

pub returns-in-Ok : goal.returns-in-Ok
returns-in-Ok c =
    layout_laid _ _ _ (record { known = omega arith; is = c.layout_of.ensures }) _ c.admit.ensures _
    c.in-Ok.is

pub returns-in-Err : goal.returns-in-Err
returns-in-Err c =
    layout_refused _ _ _ (record { known = omega arith; is = c.layout_of.ensures }) _ c.admit.ensures _ _
    c.in-Err.is c.number-in-Err.ensures
