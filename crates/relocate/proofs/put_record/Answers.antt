-- The record's slot lies in the buffer, so that its part of the buffer is as long as the record.
use Rattle.bits.specs.Words.{whole}
use Rattle.relocate.proofs.FunctionLaws.{slot_put}
use Rattle.relocate.proofs.put_record.Goals as goal

pub returns : goal.returns
returns c =
    let a = c.args in
    slot_put a.layout a.out.now a.i _ (whole a.words) _
    (record { place = c.record_at-at.ensures.0; row = c.record_row.ensures; fits = c.requires.1 }) _
    c.store_record.ensures
