-- Past the last string there is nothing; else the string that the cursor is brought to from the first one.
use native.Mathlib.Omega.{arith}
use Rattle.string_walk.proofs.WalkLaws.{located_pass}
use Rattle.string_walk.proofs.locate.Goals as goal

pub string_from-from-requires : goal.string_from-from-requires
string_from-from-requires c =
    let h = c.requires in
    let e = c.first_string.ensures in
    record {
      laid = h;
      cursor_of = (e.0 _ _ h.placed, omega (arith, e.1), c.if-p-id.false);
    }

pub returns : goal.returns
returns c =
    rw c.counts_of.ensures
    (located_pass _ _ _ _ _ c.string_at-found.ensures c.string_from-from.ensures.1 c.if-p-id.false)
