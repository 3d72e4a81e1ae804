use mathlib.Core.Path.{ap}
use mathlib.Core.Bool.{not}
use mathlib.Core.Path.{sym, subst}
use native.Mathlib.Omega.{arith}
use lib.ListN.{length}
use Rattle.footer.specs.Footer.{same}
use Rattle.utf.specs.Utf8.{Small, list_of, utf16}
use Rattle.utf.proofs.ReadingLaws.{small-between}
use Rattle.string_find.specs.Find.{units_at}
use Rattle.string_find.proofs.FindLaws.{Turn, count_left, differs, agrees, room_less, room-low, all_agree, from_start}
use Rattle.string_find.proofs.are_units.Goals as goal
use Rattle.string_find.proofs.are_units.Goals.{After-completed-units}

-- the byte that is read, and the units that it completes
turn : (c : After-completed-units) → let a = c.args in
    let l = c.loop-byte in
    Turn a.image.now a.value.now (list_of c.completed-units.result) a.start l.j l.byte-index a.wide l.r
    c.next_byte-r.result
    (same (units_at a.image.now a.start a.wide 0 (length (utf16 a.value.now))) (utf16 a.value.now))
turn c = record {
  known = c.loop-byte-test.true;
  read = c.next_byte-r.ensures.0;
  units = c.completed-units.ensures;
  left = c.loop-byte.invariant.2;
}

pub further-r-requires : goal.further-r-requires
further-r-requires c = tt

pub loop-byte-init : goal.loop-byte-init
loop-byte-init c =
    let a = c.args in
    let e = c.further-r.ensures in
    let z = from_start a.image.now a.value.now a.start a.wide _ e in
    (subst Small (sym e) small-between, z.0, z.1)

pub next_byte-r-requires : goal.next_byte-r-requires
next_byte-r-requires c = c.loop-byte.invariant.0

pub completed-units-requires : goal.completed-units-requires
completed-units-requires c = c.next_byte-r.ensures.1

pub are_next-requires : goal.are_next-requires
are_next-requires c =
    let a = c.args in
    room_less a.wide a.start _ (length (utf16 a.value.now)) _
    (omega (arith, count_left _ _ _ _ _ _ _ _ _ _ (turn (goal.at.are_next-requires c).After-completed-units) _ c.loop-byte.invariant.1))
    c.requires

pub returns-then-not-are_next : goal.returns-then-not-are_next
returns-then-not-are_next c =
    differs _ _ _ _ _ _ _ _ _ _ (turn (goal.at.returns-then-not-are_next c).After-completed-units) _ c.are_next.ensures
    (ap not c.if-not-are_next.true)

pub count_of-j-requires : goal.count_of-j-requires
count_of-j-requires c = tt

pub overflow_add-j : goal.overflow_add-j
overflow_add-j c =
    let a = c.args in
    omega (
      arith,
      c.count_of-j.ensures.0,
      room-low a.wide a.start _ _ c.requires,
      count_left _ _ _ _ _ _ _ _ _ _ (turn (goal.at.overflow_add-j c).After-completed-units) _ c.loop-byte.invariant.1,
    )

pub loop-byte-preserved : goal.loop-byte-preserved
loop-byte-preserved c =
    let t = turn (goal.at.loop-byte-preserved c).After-completed-units in (
      c.next_byte-r.ensures.1,
      rw c.count_of-j.ensures.0 (count_left _ _ _ _ _ _ _ _ _ _ t _ c.loop-byte.invariant.1),
      rw c.count_of-j.ensures.0 (agrees _ _ _ _ _ _ _ _ _ _ t _ c.are_next.ensures (ap not c.if-not-are_next.false)),
    )

pub returns : goal.returns
returns c =
    let a = c.args in
    let l = c.loop-byte in
    all_agree a.image.now a.value.now a.start l.j l.byte-index a.wide l.r (omega arith) _ l.invariant.2
