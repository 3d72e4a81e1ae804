use mathlib.Core.Path.{refl, sym, ◌∙◌, subst}
use native.Mathlib.Omega.{arith}
use Rattle.utf.specs.Utf8.{Small, unit_bytes, utf16}
use Rattle.utf.proofs.ReadingLaws.{small-between}
use Rattle.utf.proofs.UnitLaws.{ByteTaken, put_turn, put-room, units_end}
use Rattle.utf.proofs.put_units.Goals as goal

pub loop-b-init : goal.loop-b-init
unfolding utf16
loop-b-init c =
    let e = c.further-r.ensures in
    (subst Small (sym e) small-between, refl, rw e c.requires, rw e)

pub put_completed-to-requires : goal.put_completed-to-requires
put_completed-to-requires c =
    let l = c.loop-b in
    let n = c.next_byte-r in
    (put-room l.r n.result c.args.value.now _ l.b-index
    (record { more = omega arith; next = n.ensures.0; completed = c.completed.ensures }) l.to _ l.invariant.2).0

pub loop-b-preserved : goal.loop-b-preserved
loop-b-preserved c =
    let l = c.loop-b in
    let s = c.args.value.now in
    let n = c.next_byte-r in
    let t : ByteTaken l.r n.result s _ l.b-index =
    record { more = omega arith; next = n.ensures.0; completed = c.completed.ensures } in
    let p = c.put_completed-to in
    let room = put-room l.r n.result s _ l.b-index t l.to _ l.invariant.2 in (
      n.ensures.1,
      p.auto.out
          ∙ l.invariant.1,
      omega (arith, room.1, p.ensures.0, p.auto.out),
      rw (p.ensures.0, p.ensures.1)
          (put_turn l.r n.result s _ l.b-index t l.out _ l.to l.invariant.3),
    )

pub returns : goal.returns
unfolding utf16 unit_bytes
returns c =
    let l = c.loop-b in
    rw (units_end l.r c.args.value.now l.b-index (omega arith)) at l.invariant.3
