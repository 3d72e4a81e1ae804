-- By the number of units: none, two bytes, or two bytes and two behind them.
use mathlib.Core.Path.{refl, sym}
use native.Mathlib.Nat.{add-zero}
use native.Mathlib.Omega.{arith}
use Rattle.utf.specs.Utf8.{unit_bytes}
use Rattle.utf.proofs.UnitLaws.{one_unit, length_one, length_two, put_two}
use Rattle.utf.proofs.put_completed.Goals as goal

pub put_unit-requires : goal.put_unit-requires
put_unit-requires c = omega (arith, rw (c.in-One.is, length_one) at c.requires)

pub put_unit-requires-in-Two : goal.put_unit-requires-in-Two
put_unit-requires-in-Two c = omega (arith, rw (c.in-Two.is, length_two) at c.requires)

pub put_unit-requires-in-Two-2 : goal.put_unit-requires-in-Two-2
put_unit-requires-in-Two-2 c = omega (arith, rw (c.in-Two.is, length_two) at c.requires)

pub returns-in-None : goal.returns-in-None
unfolding unit_bytes
returns-in-None c = rw c.in-None.is (sym (add-zero c.args.at), refl)

pub returns-in-One : goal.returns-in-One
returns-in-One c = rw (c.in-One.is, length_one, one_unit) (refl, c.put_unit.ensures)

pub returns-in-Two : goal.returns-in-Two
returns-in-Two c =
    rw (c.in-Two.is, length_two)
    (refl, put_two _ _ _ _ _ _ c.put_unit-in-Two.ensures c.put_unit-in-Two-2.ensures)
