use native.Mathlib.Omega.{arith}
use Rattle.string_tables.specs.Strings.{as_place}
use Rattle.string_packing.proofs.ShapeLaws.{place_new, place_old}
use Rattle.string_packing.proofs.new_place.Goals as goal

pub returns-then-is_new : goal.returns-then-is_new
returns-then-is_new c =
    let a = c.args in
    let g = c.gap.ensures in
    let is = place_new a.mode a.is_new a.new (as_place a.old) a.at _ c.if-is_new.true g.0 in
    record {
      result_value = is;
      at_le_at = (omega arith, omega (arith, g.1));
    }

pub returns : goal.returns
returns c =
    let a = c.args in
    let g = c.gap-2.ensures in
    let is = place_old a.mode a.is_new a.new (as_place a.old) a.at _ c.if-is_new.false g.0 in
    record {
      result_value = is;
      at_le_at = (omega arith, omega (arith, g.1));
    }
