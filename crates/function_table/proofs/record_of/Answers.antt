-- The record's place lies before the tail, so that its part of the image is as long as the record.
use native.Mathlib.Omega.{arith}
use Rattle.sections.proofs.SectionLaws.{records_few}
use Rattle.function_table.proofs.ReadLaws.{SlotRead, slot_ends, slot_record_lem}
use Rattle.function_table.proofs.record_of.Goals as goal
use Rattle.function_table.proofs.record_of.Goals.{After-record_row}

-- where the record lies
slot : (c : After-record_row) → let a = c.args in
    SlotRead a.layout a.image.now a.i c.record_at-at.result c.record_row.result
slot c = record { place = c.record_at-at.ensures.0; row = c.record_row.ensures; fits = c.requires.fits; known = c.requires.i_bound }

pub record_at-at-requires : goal.record_at-at-requires
record_at-at-requires c =
    omega (
      arith,
      records_few c.args.layout c.args.image.now c.args.i c.requires.fits
          c.requires.i_bound,
    )

pub overflow_add-end : goal.overflow_add-end
overflow_add-end c =
    let h = slot_ends (slot (goal.at.overflow_add-end c).After-record_row) in
    omega (arith, c.requires.fits.most)

pub slice_bounds-load_record-end : goal.slice_bounds-load_record-end
slice_bounds-load_record-end c = (slot_ends (slot (goal.at.slice_bounds-load_record-end c).After-record_row)).0

pub returns : goal.returns
returns c = slot_record_lem (slot (goal.at.returns c).After-record_row) _ c.load_record.ensures
