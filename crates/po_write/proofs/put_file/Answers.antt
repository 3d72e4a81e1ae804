-- 13 where the room is short, or the length cannot be told.
use native.Mathlib.Omega.{arith}
use Rattle.po_write.proofs.FileLaws.{short_room, long-file, no_room, in_room}
use lib.ListN.{length}
use Rattle.po_write.specs.File.{po_of}
use Rattle.po_write.proofs.put_file.Goals as goal
use Rattle.po_write.proofs.put_file.Goals.{then-out-total-via-then-out-total}
use Rattle.po_write.proofs.put_file.Goals.{then-out-total-via-else-out-total+then-total-gt-LONGEST}

pub returns-then-out-total : goal.returns-then-out-total
returns-then-out-total c =
    let a = c.args in
    let new = po_of a.p.layout a.image.now in
    let n = length a.out.now in
    let t = c.requires.total_value in
    no_room new a.out.now
    (elim c.then-out-total.branch [
      | then-out-total-via-then-out-total w ↦ short_room n (length new) (omega (arith, w.if-out-total.true, t))
      | then-out-total-via-else-out-total+then-total-gt-LONGEST w ↦
          long-file n (length new) (omega (arith, w.if-total-gt-LONGEST.true, t))
    ])

pub put_entries-requires : goal.put_entries-requires
put_entries-requires c =
    record {
      laid = c.requires.laid;
      image_in_bounds = omega (arith, c.if-out-total.false, c.requires.total_value);
    }

pub returns : goal.returns
returns c =
    let a = c.args in
    in_room (po_of a.p.layout a.image.now) a.out.now _ _ c.requires.total_value c.if-out-total.false c.if-total-gt-LONGEST.false
    c.put_entries.ensures
