-- The units before i agree: those that are left are the same where all are.
use mathlib.Core.Path.{◌≡◌}
use Rattle.footer.specs.Footer.{same}
use Rattle.po_strings.specs.Texts.{units_in, units_left}
use Rattle.po_strings.proofs.have_same_units.Given as goal

abbrev pub invariant-loop-i : goal.invariant-loop-i
invariant-loop-i l =
    same (units_left l.image l.a l.i) (units_left l.image l.b l.i)
    ≡ same (units_in l.image l.a) (units_in l.image l.b)
