use Rattle.string_edits.proofs.next_edit.Goals as goal

pub returns-in-Ids : goal.returns-in-Ids
returns-in-Ids c = rw c.in-Ids.is c.next_listed.ensures

pub returns-in-Marks : goal.returns-in-Marks
returns-in-Marks c = rw c.in-Marks.is c.next_marked.ensures
