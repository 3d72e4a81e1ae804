-- The first edited string, or the first of all where none is edited.
use native.Mathlib.Omega.{arith}
use Rattle.string_in_place.proofs.first_edited.Goals as goal

pub string_from-requires : goal.string_from-requires
string_from-requires c =
    let q = c.requires in
    let n = c.next_edit-next.ensures in
    let f = c.first_string-first.ensures in
    record {
      laid = q.laid;
      cursor_of = (f.0 _ _ q.laid.placed, omega (arith, f.1), q.by_index _ _ (n.own c.if-next-lt-NONE.true));
    }

pub returns-then-next-lt-NONE : goal.returns-then-next-lt-NONE
returns-then-next-lt-NONE c =
    let q = c.requires in
    let n = c.next_edit-next.ensures in
    let e = c.string_from.ensures in
    record {
      cursor = e.0;
      most = omega (arith, e.1, q.by_index _ _ (n.own c.if-next-lt-NONE.true));
      first = λ id j t. omega (arith, e.1, n.least id j t (omega arith));
    }

pub returns : goal.returns
returns c =
    let q = c.requires in
    let f = c.first_string-first.ensures in
    record { cursor = f.0 _ _ q.laid.placed; most = omega (arith, f.1); first = λ id j t. omega (arith, f.1) }
