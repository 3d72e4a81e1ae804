-- The three parts have their room, one behind the other; what `put_strings` leaves is the region.
use Rattle.string_edits.specs.Told.{told}
use Rattle.string_packing_write.proofs.PutLaws.{roomy, region-put}
use Rattle.string_packing_write.proofs.put_region.Goals as goal

pub put_strings-requires : goal.put_strings-requires
put_strings-requires c =
    let q = c.requires in
    record { laid = q.laid; listed = q.listed; roomy = roomy _ _ _ _ _ _ _ _ q _ c.entry_at-storage_at.ensures }

pub returns : goal.returns
returns c =
    let a = c.args in
    let q = c.requires in
    region-put a.mode a.p a.image.now (told a.form a.words.now) a.text.now a.ends.now a.sizes _ q _
    c.entry_at-storage_at.ensures _ a.out.now _ _
    (record {
      strings = c.put_strings.ensures;
      four = c.up4.ensures;
      zeros = c.put_zeros.ensures;
    })
