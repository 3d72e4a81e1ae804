-- What is held of the record that the pass gives is what the image has of the string.
use Rattle.string_walk.proofs.RecordLaws.{record_small}
use Rattle.string_index.proofs.IndexLaws.{held_is}
use Rattle.string_index.proofs.put_string.Goals as goal

pub entry_of-entry-requires : goal.entry_of-entry-requires
entry_of-entry-requires c =
    let h = c.requires in
    record_small _ _ h.laid.0.placed _ _ c.string_at-step.ensures.string

pub returns : goal.returns
returns c =
    let h = c.requires in
    let v = c.string_at-step.ensures in
    let e = held_is _ _ h.laid.0.placed _ _ v.string _ c.entry_of-entry.ensures in
    record {
      cursor_of_2 = (v.next, v.id);
      index_after = rw (← e) c.put_entry.ensures;
    }
