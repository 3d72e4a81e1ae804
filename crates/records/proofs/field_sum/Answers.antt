use native.Mathlib.Omega.{arith}
use mir.Facts.{to_z-of_z}
use Rattle.records.proofs.RowLaws.{record_row_lem}
use Rattle.records.proofs.field_sum.Goals as goal

pub width-requires : goal.width-requires
width-requires c = (record_row_lem c.args.k c.requires).named

pub add_delta-requires : goal.add_delta-requires
add_delta-requires c = (omega (arith, c.value.ensures.2), rw c.width.ensures (record_row_lem c.args.k c.requires).small)

pub returns : goal.returns
returns c = rw (c.add_delta.ensures, c.width.ensures, c.value.ensures.0, to_z-of_z c.ranges.delta)
